-- The encoder's answer on the pairs that are kept, and the encoding of all.
use Rattle.std.proofs.Common.{◌≡◌, ◌≢◌, ◌∙◌, sym, ap, refl, subst, ℕ, suc, ◌+◌, ◌<◌, Bool, true, false, not, cond, List, [], ◌∷◌, ◌++◌, length, map, take, drop, get_or, filter, All, Option, Some, None, is_none, Ok, Err, bytes_eq, arith, add-zero}
use Rattle.std.specs.Prelude.{Result, find, unwrap_or}
use Rattle.std.proofs.Math.Seq.{take-length}
use Rattle.std.specs.List.{list_all, position_from}
use Rattle.std.proofs.lemmas.Bool.{and_parts}
use Rattle.std.proofs.lemmas.List.{take-append-drop, length-take-le, drop_more}
use Rattle.std.proofs.lemmas.Option.{slice_get_within}
use Rattle.spec_expressions.specs.Scope.{Configuration}
use Rattle.spec_instructions.specs.Tree.{Own}
use Rattle.spec_instructions.specs.Fields as path
use Rattle.spec_encoding.specs.Refusal.{Refusal, UnknownField, unless, renumbered, with_node}
use Rattle.spec_encoding.specs.Refusal as refusal
use Rattle.spec_encoding.specs.Parts.{Part, is_too_wide, is_clash, highest}
use Rattle.spec_encoding.specs.Layout.{is_misfixed, is_stray}
use Rattle.spec_encoding.specs.Placed.{made, placed}
use Rattle.spec_encoding.specs.Named.{is_unknown, doubled_from, missing, parts}
use Rattle.spec_encoding.specs.PathLayout.{layout, shown, is_shown, excluded_at}
use Rattle.spec_encoding.specs.Encoding.{named_field, encoding}
use Rattle.spec_encoding.proofs.ExclusionLaws.{exclusion_is_exact}
use Rattle.spec_lines.specs.Given as spec
use Rattle.spec_lines.specs.Way.{Way}
use Rattle.mrs_names.specs.declared.name_id.NameId.{NameId}
use Rattle.mrs_arena.specs.Placed.{text_of, path_to}
use Rattle.insn_tree.specs.declared.field_range.FieldRange.{FieldRange}
use Rattle.insn_tree.specs.Trees.{TreeParts, field_of}
use Rattle.insn_encode.specs.declared.fault.EncodeFault.{EncodeFault}
use Rattle.insn_encode.specs.declared.fault.EncodeFault.TheVariants as fault
use Rattle.insn_encode.specs.Held.{pair_by, refusal_by, answer_by, node_at}
use Rattle.list_words.specs.declared.given.Given.{Given}
use Rattle.list_words.specs.Names.{is_other}
use Rattle.list_words.specs.Ways.{way_node, path_along}
use Rattle.list_words.specs.Faults.{IsWithin}
use Rattle.list_words.specs.Givens.{IsGiven}
use Rattle.list_words.specs.Encoded.{Encodes, IsRefusedAt, or_next}

-- ---- what is known of each refusal

-- of an Err that comes through: what is known where this one is told, and else of those behind it
each-unless : {X : Type 0} (P : Refusal (List ℕ) → Type 0) (o : Option X) (why : X → Refusal (List ℕ)) (next : Result ℕ (Refusal (List ℕ)))
    → ((x : X) → o ≡ Some x → P (why x)) → ((r : Refusal (List ℕ)) → next ≡ Err r → P r) → (r : Refusal (List ℕ)) → unless o why next ≡ Err r → P r
each-unless P None why next here later r h = later r h
each-unless P (Some x) why next here later r h = let same : why x ≡ r = cc in subst P same (here x refl)

module _ (p : List Own) (g : Configuration) (pairs : List (List ℕ × ℕ)) (rest : ℕ) where
  abbrev ps : List Part
  ps = parts bytes_eq (map named_field (shown p)) pairs

  -- behind the first unknown name
  abbrev known : Result ℕ (Refusal (List ℕ))
  known =
      unless (doubled_from bytes_eq [] 0 pairs) refusal.DoubledField
      (unless (missing bytes_eq (map named_field (shown p)) pairs) refusal.MissingField
      (placed (layout p) (excluded_at p g) ps rest))

  excluded-within : (n : ℕ) → excluded_at p g (made (layout p) ps rest) ≡ Some n → n < length p
  excluded-within n h =
      let at = (((exclusion_is_exact p g (made (layout p) ps rest)).some n).0 h).excludes in
      slice_get_within p n at.own at.at

  each-known : (P : Refusal (List ℕ) → Type 0) → ((i : ℕ) → P (refusal.DoubledField i)) → ((name : List ℕ) → P (refusal.MissingField name)) → ((i : ℕ) → P (refusal.TooWide i)) → ((i : ℕ) → P (refusal.Clash i)) → ((i : ℕ) → P (refusal.FixedBit i))
      → ((i : ℕ) → P (refusal.RestBit i)) → ((n : ℕ) → n < length p → P (refusal.Excluded n)) → (r : Refusal (List ℕ)) → known ≡ Err r → P r
  each-known P doubled missing_name wide clash fixed stray excluded =
      each-unless P (doubled_from bytes_eq [] 0 pairs) refusal.DoubledField _ (λ i _. doubled i)
      (each-unless P (missing bytes_eq (map named_field (shown p)) pairs) refusal.MissingField _ (λ name _. missing_name name)
      (each-unless P (position_from is_too_wide 0 ps) refusal.TooWide _ (λ i _. wide i)
      (each-unless P (highest (is_clash ps) 32) refusal.Clash _ (λ i _. clash i)
      (each-unless P (highest (is_misfixed (layout p) ps) 32) refusal.FixedBit _ (λ i _. fixed i)
      (each-unless P (highest (is_stray (layout p) rest) 32) refusal.RestBit _ (λ i _. stray i)
      (each-unless P (excluded_at p g (made (layout p) ps rest)) refusal.Excluded (Ok (made (layout p) ps rest)) (λ n e. excluded n (excluded-within n e)) (λ r h. absurd cc)))))))

  pub encoding-within : (r : Refusal (List ℕ)) → encoding p g pairs rest ≡ Err r → IsWithin (length p) r
  encoding-within =
      each-unless (IsWithin (length p)) (position_from (is_unknown bytes_eq (map named_field (shown p))) 0 pairs) refusal.UnknownField known (λ i _. tt)
      (each-known (IsWithin (length p)) (λ i. tt) (λ name. tt) (λ i. tt) (λ i. tt) (λ i. tt) (λ i. tt) (λ n h. h))

  -- no unknown name is told behind those
  known-not_unknown : (i : ℕ) → known ≡ Err (UnknownField i) → ⊥
  known-not_unknown i h =
      each-known (λ r. r ≢ UnknownField i) (λ j e. cc) (λ name e. cc) (λ j e. cc) (λ j e. cc) (λ j e. cc) (λ j e. cc) (λ n lt e. cc) (UnknownField i) h refl

-- ---- the answer on some pairs

abbrev Answer : Type 0
Answer = Result ℕ (Refusal (List ℕ))

-- the path is that to its node
abbrev pub IsToNode : List (List ℕ) → TreeParts → Way → Type 0
IsToNode names tree way = path_along names tree way ≡ path_to names tree.nodes (way_node tree.nodes way)

-- what is answered is the encoding, by the texts of names and the places of nodes
pub answered : (names : List (List ℕ)) (tree : TreeParts) (way : Way) (answer : Result ℕ EncodeFault) (told : Answer) → IsToNode names tree way → answer_by names answer ≡ with_node (node_at tree.nodes (way_node tree.nodes way)) told
    → ((r : Refusal (List ℕ)) → told ≡ Err r → IsWithin (length (path_along names tree way)) r) → Encodes names tree way answer told
answered names tree way (Ok w) (Ok v) path_is same within = cc
answered names tree way (Ok w) (Err r) path_is same within = absurd cc
answered names tree way (Err code) (Ok v) path_is same within = absurd cc
answered names tree way (Err code) (Err r) path_is same within = record { refusal = r; is = refl; refusal_is = record { path = path_is; node = within r refl; same = cc } }

renumbered-unknown : (e : ℕ → ℕ) (i : ℕ) (r : Refusal (List ℕ)) → UnknownField i ≡ renumbered e r → r ≡ UnknownField i
renumbered-unknown e i (refusal.UnknownField j) h = cc
renumbered-unknown e i (refusal.DoubledField j) h = absurd cc
renumbered-unknown e i (refusal.MissingField name) h = absurd cc
renumbered-unknown e i (refusal.TooWide j) h = absurd cc
renumbered-unknown e i (refusal.Clash j) h = absurd cc
renumbered-unknown e i (refusal.FixedBit j) h = absurd cc
renumbered-unknown e i (refusal.RestBit j) h = absurd cc
renumbered-unknown e i (refusal.Excluded node) h = absurd cc

with_node-unknown : (e : ℕ → ℕ) (i : ℕ) (told : Answer) → Err (UnknownField i) ≡ with_node e told → told ≡ Err (UnknownField i)
with_node-unknown e i (Ok w) h = absurd cc
with_node-unknown e i (Err r) h = ap Err (renumbered-unknown e i r cc)

-- an answer that tells no unknown name leaves the next
next-told : (names : List (List ℕ)) (e : ℕ → ℕ) (answer : Result ℕ EncodeFault) (told : Answer) (next : ℕ) → answer_by names answer ≡ with_node e told → ((i : ℕ) → told ≢ Err (UnknownField i)) → or_next answer next ≡ fault.UnknownField next
next-told names e (Ok w) told next same never = refl
next-told names e (Err (fault.UnknownField i)) told next same never = absurd (never i (with_node-unknown e i told same))
next-told names e (Err (fault.DoubledField i)) told next same never = refl
next-told names e (Err (fault.MissingField name)) told next same never = refl
next-told names e (Err (fault.TooWide i)) told next same never = refl
next-told names e (Err (fault.Clash bit)) told next same never = refl
next-told names e (Err (fault.FixedBit bit)) told next same never = refl
next-told names e (Err (fault.RestBit bit)) told next same never = refl
next-told names e (Err (fault.Excluded node)) told next same never = refl

-- and one that tells it is left
first-told : (names : List (List ℕ)) (e : ℕ → ℕ) (answer : Result ℕ EncodeFault) (i next : ℕ) → answer_by names answer ≡ with_node e (Err (UnknownField i)) → or_next answer next ≡ fault.UnknownField i
first-told names e (Ok w) i next same = absurd cc
first-told names e (Err (fault.UnknownField j)) i next same = let eq : j ≡ i = cc in ap fault.UnknownField eq
first-told names e (Err (fault.DoubledField j)) i next same = absurd cc
first-told names e (Err (fault.MissingField name)) i next same = absurd cc
first-told names e (Err (fault.TooWide j)) i next same = absurd cc
first-told names e (Err (fault.Clash bit)) i next same = absurd cc
first-told names e (Err (fault.FixedBit bit)) i next same = absurd cc
first-told names e (Err (fault.RestBit bit)) i next same = absurd cc
first-told names e (Err (fault.Excluded node)) i next same = absurd cc

-- ---- the first unknown name

-- a name that no field has is that of no shown one
unknown-among : (names : List (List ℕ)) (fields : List FieldRange) (text : List ℕ) (test : path.Field → Bool) → list_all (is_other names text) fields ≡ true
    → is_none (find (λ f. bytes_eq f.name text) (map named_field (filter test (map (field_of names) fields)))) ≡ true
unknown-among names [] text test h = refl
unknown-among names (f ∷ fields) text test h = go (bytes_eq (text_of names f.name.0) text) refl (test (field_of names f)) (and_parts (is_other names text f) (list_all (is_other names text) fields) h) (unknown-among names fields text test)
  where
    go : (b : Bool) → bytes_eq (text_of names f.name.0) text ≡ b → (t : Bool) → (not (bytes_eq (text_of names f.name.0) text) ≡ true) × (list_all (is_other names text) fields ≡ true)
        → (list_all (is_other names text) fields ≡ true → is_none (find (λ f. bytes_eq f.name text) (map named_field (filter test (map (field_of names) fields)))) ≡ true)
        → is_none (find (λ f. bytes_eq f.name text) (map named_field (cond t (field_of names f ∷ filter test (map (field_of names) fields)) (filter test (map (field_of names) fields))))) ≡ true
    go true e t parts later = absurd (let no : not true ≡ true = ap not (sym e) ∙ parts.0 in cc)
    go false e true parts later = rw e (later parts.1)
    go false e false parts later = later parts.1

abbrev or_else : Option ℕ → ℕ → ℕ
or_else None n = n
or_else (Some i) n = i

position-append : {X : Type 0} (test : X → Bool) (k : ℕ) (xs ys : List X) (x : X) → test x ≡ true → position_from test k (xs ++ x ∷ ys) ≡ Some (or_else (position_from test k xs) (k + length xs))
position-append test k [] ys x h = rw (h, add-zero)
position-append test k (z ∷ xs) ys x h = go (test z) (position-append test (k + 1) xs ys x h)
  where
    go : (b : Bool) → position_from test (k + 1) (xs ++ x ∷ ys) ≡ Some (or_else (position_from test (k + 1) xs) (k + 1 + length xs))
        → cond b (Some k) (position_from test (k + 1) (xs ++ x ∷ ys)) ≡ Some (or_else (cond b (Some k) (position_from test (k + 1) xs)) (k + suc (length xs)))
    go true e = refl
    go false e = let z : k + suc (length xs) ≡ k + 1 + length xs = omega arith in rw z e

-- ---- what is given

module _ (names : List (List ℕ)) (fields : List FieldRange) (code : Given) (given : spec.Given) (h : IsGiven names fields code given) (tree : TreeParts) (way : Way) (path_is : IsToNode names tree way) (g : Configuration)
    (visible : map (field_of names) fields ≡ path.fields (path_along names tree way)) (answer : Result ℕ EncodeFault)
    (same : answer_by names answer ≡ with_node (node_at tree.nodes (way_node tree.nodes way)) (encoding (path_along names tree way) g (map (pair_by names) code.pairs) (unwrap_or code.rest 0))) where
  abbrev p : List Own
  p = path_along names tree way

  abbrev rest : ℕ
  rest = unwrap_or given.rest 0

  abbrev n : ℕ
  n = length code.pairs

  same_kept : answer_by names answer ≡ with_node (node_at tree.nodes (way_node tree.nodes way)) (encoding p g (take n given.pairs) rest)
  same_kept =
      same ∙ ap (λ r. with_node (node_at tree.nodes (way_node tree.nodes way)) (encoding p g (map (pair_by names) code.pairs) (unwrap_or r 0))) h.rest
      ∙ ap (λ ps. with_node (node_at tree.nodes (way_node tree.nodes way)) (encoding p g ps rest)) h.same

  -- where all names are those of fields
  pub all-encoded : n ≡ code.count → Encodes names tree way answer (encoding p g given.pairs rest)
  all-encoded e =
      let whole : take n given.pairs ≡ given.pairs = ap (λ i. take i given.pairs) (e ∙ h.count) ∙ take-length given.pairs in
      answered names tree way answer (encoding p g given.pairs rest) path_is (same_kept ∙ ap (λ ps. with_node (node_at tree.nodes (way_node tree.nodes way)) (encoding p g ps rest)) whole) (encoding-within p g given.pairs rest)

  abbrev test : List ℕ × ℕ → Bool
  test = is_unknown bytes_eq (map named_field (shown p))

  abbrev next : List ℕ × ℕ
  next = get_or given.pairs n ([], 0)

  next-unknown : n < length given.pairs → test next ≡ true
  next-unknown below =
      subst (λ fs. is_none (find (λ f. bytes_eq f.name next.0) (map named_field (filter (is_shown p) fs))) ≡ true) visible (unknown-among names fields next.0 (is_shown p) (h.other below))

  found : n < length given.pairs → position_from test 0 given.pairs ≡ Some (or_else (position_from test 0 (take n given.pairs)) n)
  found below =
      let count : 0 + length (take n given.pairs) ≡ n = omega (arith, length-take-le n given.pairs (omega arith)) in
      ap (position_from test 0) (sym (take-append-drop n given.pairs) ∙ ap (λ ps. take n given.pairs ++ ps) (drop_more given.pairs n ([], 0) below))
      ∙ position-append test 0 (take n given.pairs) (drop (n + 1) given.pairs) next (next-unknown below)
      ∙ ap (λ i. Some (or_else (position_from test 0 (take n given.pairs)) i)) count

  -- where that of pair number n is not
  pub next-encoded : n < length given.pairs → IsRefusedAt names tree way (or_next answer n) (encoding p g given.pairs rest)
  next-encoded below = go (position_from test 0 (take n given.pairs)) refl
    where
      told : (i : ℕ) → or_next answer n ≡ fault.UnknownField i → position_from test 0 given.pairs ≡ Some i → IsRefusedAt names tree way (or_next answer n) (encoding p g given.pairs rest)
      told i is at = record {
        refusal = UnknownField i;
        is = ap (λ o. unless o UnknownField (known p g given.pairs rest)) at;
        refusal_is = record { path = path_is; node = tt; same = ap (refusal_by names) is };
      }

      go : (o : Option ℕ) → position_from test 0 (take n given.pairs) ≡ o → IsRefusedAt names tree way (or_next answer n) (encoding p g given.pairs rest)
      go None e =
          let here : encoding p g (take n given.pairs) rest ≡ known p g (take n given.pairs) rest = ap (λ o. unless o UnknownField (known p g (take n given.pairs) rest)) e in
          told n (next-told names (node_at tree.nodes (way_node tree.nodes way)) answer (encoding p g (take n given.pairs) rest) n same_kept (λ i bad. known-not_unknown p g (take n given.pairs) rest i (sym here ∙ bad))) (found below ∙ ap (λ o. Some (or_else o n)) e)
      go (Some i) e =
          let here : encoding p g (take n given.pairs) rest ≡ Err (UnknownField i) = ap (λ o. unless o UnknownField (known p g (take n given.pairs) rest)) e in
          told i (first-told names (node_at tree.nodes (way_node tree.nodes way)) answer i n (same_kept ∙ ap (with_node (node_at tree.nodes (way_node tree.nodes way))) here)) (found below ∙ ap (λ o. Some (or_else o n)) e)

-- what is answered on some pairs and a rest is answered on equal ones
pub answered-same : (names : List (List ℕ)) (tree : TreeParts) (way : Way) (g : Configuration) (answer : Result ℕ EncodeFault) (ps qs : List (NameId × ℕ)) (r s : ℕ)
    → answer_by names answer ≡ with_node (node_at tree.nodes (way_node tree.nodes way)) (encoding (path_along names tree way) g (map (pair_by names) ps) r) → ps ≡ qs → r ≡ s
    → answer_by names answer ≡ with_node (node_at tree.nodes (way_node tree.nodes way)) (encoding (path_along names tree way) g (map (pair_by names) qs) s)
answered-same names tree way g answer ps qs r s same pairs rest =
    same ∙ ap (λ (xs : List (NameId × ℕ)). with_node (node_at tree.nodes (way_node tree.nodes way)) (encoding (path_along names tree way) g (map (pair_by names) xs) r)) pairs
    ∙ ap (λ x. with_node (node_at tree.nodes (way_node tree.nodes way)) (encoding (path_along names tree way) g (map (pair_by names) qs) x)) rest

abbrev pub AreHeldPairs : List (List ℕ) → List (NameId × ℕ) → Type 0
AreHeldPairs names pairs = All (λ (pair : NameId × ℕ). pair.0.0 < length names) pairs

pub held_same : (names : List (List ℕ)) (ps qs : List (NameId × ℕ)) → ps ≡ qs → AreHeldPairs names qs → AreHeldPairs names ps
held_same names ps qs same held = subst (AreHeldPairs names) (sym same) held
