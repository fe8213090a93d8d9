-- Laws of labels.
use Rattle.std.proofs.Common.{◌≡◌, ◌∙◌, sym, ap, refl, ℕ, ◌<◌, Bool, true, false, cond, List, [], ◌∷◌, ◌++◌, length, map, get_or, bytes_eq, Vec, Option, Some, None, is_some, All, arith}
use Rattle.std.specs.Prelude.{find, nat_lt, decimal}
use Rattle.std.specs.List.{range_with_len}
use Rattle.std.specs.Map.{lookup}
use Rattle.std.specs.Option.{option_or}
use Rattle.std.proofs.lemmas.Bool.Decides.{Decides-like, same_from_decides}
use Rattle.std.proofs.lemmas.List.{length-map, get_or-map, map-append}
use Rattle.std.proofs.lemmas.Slice.Eq.{bytes_eq-Decides}
use Rattle.spec_instructions.specs.Tree.{Own}
use Rattle.spec_instructions.specs.Paths.{path_name, namesakes, labelled, label, has_label, labelled_path}
use Rattle.mrs_names.specs.Texts.{AreNames}
use Rattle.mrs_arena.specs.Flat.{FlatNode}
use Rattle.mrs_arena.specs.Formed.{AreNodes}
use Rattle.mrs_arena.specs.Placed.{text_of, path_to, AreHeld}
use Rattle.insn_tree.specs.Ends.{name_at, end_names, is_shared}
use Rattle.insn_tree.specs.Labels.{flat_label, label_at, has_flat_label, with_label, labels_of}
use Rattle.insn_tree.specs.Trees.{number_of, label_number}
use Rattle.insn_tree.proofs.RangeLaws.{find_same}
use Rattle.insn_tree.proofs.LeafLaws.{path_name-to, held_name, namesakes-sakes}

-- ---- the table

number_of-append : (text : List ℕ) (first second : List (List ℕ × ℕ)) → number_of text (first ++ second) ≡ option_or (number_of text first) (number_of text second)
number_of-append text [] second = refl
number_of-append text (e ∷ es) second = go (bytes_eq text e.0) (number_of-append text es second)
  where
    go : (b : Bool) → number_of text (es ++ second) ≡ option_or (number_of text es) (number_of text second)
        → cond b (Some e.1) (number_of text (es ++ second)) ≡ option_or (cond b (Some e.1) (number_of text es)) (number_of text second)
    go true further = refl
    go false further = further

-- a label that is put is found where none was before
pub number_of-put : (text : List ℕ) (put : List ℕ) (k : ℕ) (labels : List (List ℕ × ℕ)) → number_of text (with_label put k labels) ≡ option_or (number_of text labels) (cond (bytes_eq text put) (Some k) None)
number_of-put text put k labels = go (number_of put labels) refl
  where
    held : (j : ℕ) → number_of put labels ≡ Some j → (b : Bool) → bytes_eq text put ≡ b → number_of text labels ≡ option_or (number_of text labels) (cond b (Some k) None)
    held j e true same =
        let found : number_of text labels ≡ Some j = ap (λ t. number_of t labels) ((bytes_eq-Decides text put).0 same) ∙ e in
        found ∙ sym (ap (λ o. option_or o (Some k)) found)
    held j e false same = or_none (number_of text labels)
      where
        or_none : (o : Option ℕ) → o ≡ option_or o None
        or_none None = refl
        or_none (Some i) = refl

    go : (o : Option ℕ) → number_of put labels ≡ o → number_of text (with_label put k labels) ≡ option_or (number_of text labels) (cond (bytes_eq text put) (Some k) None)
    go None e = ap (λ o. number_of text (cond (is_some o) labels (labels ++ (put, k) ∷ []))) e ∙ number_of-append text labels ((put, k) ∷ [])
    go (Some j) e = ap (λ o. number_of text (cond (is_some o) labels (labels ++ (put, k) ∷ []))) e ∙ held j e (bytes_eq text put) refl

module _ {Z : Type 0} where
  pub lookup-labels : (text : List ℕ) (es : List (Vec ℕ Z × ℕ)) → lookup (λ k. bytes_eq text k.items) es ≡ number_of text (labels_of es)
  lookup-labels text [] = refl
  lookup-labels text (e ∷ es) = ap (λ o. cond (bytes_eq text e.0.items) (Some e.1) o) (lookup-labels text es)

  pub labels_of-push : (es : List (Vec ℕ Z × ℕ)) (label : Vec ℕ Z) (k : ℕ) → labels_of (es ++ (label, k) ∷ []) ≡ labels_of es ++ (label.items, k) ∷ []
  labels_of-push es label k = map-append (λ (e : Vec ℕ Z × ℕ). (e.0.items, e.1)) es ((label, k) ∷ [])

pub none_from : (o : Option ℕ) → is_some o ≡ false → o ≡ None
none_from None h = refl
none_from (Some k) h = absurd (cc)

pub with_label-held : (text : List ℕ) (k : ℕ) (labels : List (List ℕ × ℕ)) → is_some (number_of text labels) ≡ true → labels ≡ with_label text k labels
with_label-held text k labels h = ap (λ b. cond b labels (labels ++ (text, k) ∷ [])) (sym h)

pub with_label-new : (text : List ℕ) (k : ℕ) (labels : List (List ℕ × ℕ)) → is_some (number_of text labels) ≡ false → labels ++ (text, k) ∷ [] ≡ with_label text k labels
with_label-new text k labels h = ap (λ b. cond b labels (labels ++ (text, k) ∷ [])) (sym h)

pub bytes_eq-turn : (xs ys : List ℕ) → bytes_eq xs ys ≡ bytes_eq ys xs
bytes_eq-turn xs ys =
    same_from_decides (bytes_eq xs ys) (bytes_eq ys xs) (bytes_eq-Decides xs ys)
    (Decides-like (bytes_eq ys xs) (λ e. sym e) (λ e. sym e) (bytes_eq-Decides ys xs))

-- ---- the labels of paths

flat_label-is : (names : List (List ℕ)) (name : ℕ) (shared : Bool) (k : ℕ) → flat_label names name shared k ≡ cond shared (text_of names name ++ 35 ∷ decimal k) (text_of names name)
flat_label-is names name true k = refl
flat_label-is names name false k = refl

module _ (names : List (List ℕ)) (nodes : List FlatNode) (ends : List ℕ) (are : AreNames names) (held : AreHeld names nodes) (formed : AreNodes nodes) (all : All (λ n. n < length nodes) ends) where
  abbrev paths : List (List Own)
  paths = map (path_to names nodes) ends

  abbrev ids : List ℕ
  ids = end_names nodes ends

  name-end : (k : ℕ) → k < length ends → path_name (get_or paths k []) ≡ text_of names (get_or ids k 0)
  name-end k h =
      ap path_name (get_or-map (path_to names nodes) ends k 0 [] h)
      ∙ path_name-to names nodes formed (get_or ends k 0) (all k 0 h)
      ∙ ap (text_of names) (sym (get_or-map (name_at nodes) ends k 0 0 h))

  pub end_name-held : (k : ℕ) → k < length ends → get_or ids k 0 < length names
  end_name-held k h =
      let n = get_or ends k 0 in
      omega (arith, get_or-map (name_at nodes) ends k 0 0 h, held_name names nodes held n (all k 0 h))

  -- a path's label, by the number of its name
  pub label-end : (k : ℕ) → k < length ends → flat_label names (get_or ids k 0) (is_shared ids (get_or ids k 0)) k ≡ label paths k
  label-end k h =
      let id = get_or ids k 0 in
      let sakes-same = namesakes-sakes names nodes ends are held formed all id (end_name-held k h) in
      flat_label-is names id (is_shared ids id) k
      ∙ ap (λ n. cond (nat_lt 1 n) (text_of names id ++ 35 ∷ decimal k) (text_of names id)) (sym sakes-same)
      ∙ ap (λ t. labelled (namesakes t paths) t k) (sym (name-end k h))

  -- its number is printed where another path has its name
  pub number-end : (k : ℕ) → k < length ends → cond (is_shared ids (get_or ids k 0)) (Some k) None ≡ label_number paths k
  number-end k h =
      let id = get_or ids k 0 in
      let number : ℕ → Option ℕ = λ n. cond (nat_lt 1 n) (Some k) None in
      ap number (sym (namesakes-sakes names nodes ends are held formed all id (end_name-held k h)))
      ∙ ap (λ t. number (namesakes t paths)) (sym (name-end k h))

  label-same : (k : ℕ) → k < length ends → label_at names ids (map (is_shared ids) ids) k ≡ label paths k
  label-same k h =
      let within : k < length ids = omega (arith, h, length-map ends (name_at nodes)) in
      ap (λ b. flat_label names (get_or ids k 0) b k) (get_or-map (is_shared ids) ids k 0 false within) ∙ label-end k h

  -- the path with a label, by the numbers of names
  pub labelled-end : (text : List ℕ) → find (has_flat_label names ids (map (is_shared ids) ids) text) (range_with_len 0 (length ids)) ≡ labelled_path paths text
  labelled-end text =
      let shared = map (is_shared ids) ids in
      let count : length ids ≡ length ends = length-map ends (name_at nodes) in
      let as_many : length paths ≡ length ends = length-map ends (path_to names nodes) in
      ap (λ n. find (has_flat_label names ids shared text) (range_with_len 0 n)) count
      ∙ find_same (has_flat_label names ids shared text) (has_label paths text) (length ends) (λ k h. ap (λ l. bytes_eq l text) (label-same k h))
      ∙ ap (λ n. find (has_label paths text) (range_with_len 0 n)) (sym as_many)
