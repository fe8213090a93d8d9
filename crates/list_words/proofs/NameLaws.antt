-- Names of fields by their bytes.
use Rattle.std.proofs.Common.{◌≡◌, sym, ap, refl, ℕ, zero, suc, ◌+◌, ◌<◌, Bool, true, false, not, cond, List, [], ◌∷◌, length, All, Option, Some, None, option_map, bytes_eq, arith}
use Rattle.std.specs.List.{list_all}
use Rattle.std.proofs.lemmas.List.Elements.{All-head, All-tail}
use Rattle.std.proofs.lemmas.Option.{get_or_from_slice_get}
use Rattle.std.proofs.lemmas.Slice.Eq.{bytes_eq-Decides}
use Rattle.mrs_names.specs.Texts.{place_of}
use Rattle.mrs_names.proofs.PlaceLaws.{place_of-at, place_of-lt}
use Rattle.mrs_names.specs.declared.name_id.NameId.{NameId}
use Rattle.mrs_arena.specs.Placed.{text_of}
use Rattle.insn_tree.specs.declared.field_range.FieldRange.{FieldRange}
use Rattle.list_words.specs.Names.{is_other, IsNameFor}

-- the other way round
turned : (a b : List ℕ) → bytes_eq a b ≡ false → bytes_eq b a ≡ false
turned a b h = go (bytes_eq b a) refl
  where
    go : (v : Bool) → bytes_eq b a ≡ v → bytes_eq b a ≡ false
    go false e = e
    go true e = absurd (let same : b ≡ a = (bytes_eq-Decides b a).0 e in let yes : bytes_eq a b ≡ true = (bytes_eq-Decides a b).1 (sym same) in cc)

-- a text that has no place is none of the names
not_held : (names : List (List ℕ)) (text : List ℕ) (k : ℕ) → place_of text names ≡ None → k < length names → bytes_eq text (text_of names k) ≡ false
not_held [] text k h lt = absurd (omega arith)
not_held (name ∷ names) text zero h lt = go (bytes_eq text name) refl h
  where
    go : (v : Bool) → bytes_eq text name ≡ v → cond v (Some 0) (option_map (λ j. j + 1) (place_of text names)) ≡ None → bytes_eq text name ≡ false
    go false e h = e
    go true e h = absurd cc
not_held (name ∷ names) text (suc k) h lt = go (bytes_eq text name) (place_of text names) refl h (λ e. not_held names text k e (omega arith))
  where
    go : (v : Bool) (o : Option ℕ) → place_of text names ≡ o → cond v (Some 0) (option_map (λ j. j + 1) o) ≡ None → (place_of text names ≡ None → bytes_eq text (text_of names k) ≡ false) → bytes_eq text (text_of names k) ≡ false
    go true o e h later = absurd cc
    go false None e h later = later e
    go false (Some j) e h later = absurd cc

all_other : (names : List (List ℕ)) (fields : List FieldRange) (text : List ℕ) → place_of text names ≡ None → All (λ f. f.name.0 < length names) fields → list_all (is_other names text) fields ≡ true
all_other names [] text none held = refl
all_other names (f ∷ fields) text none held =
    let other : not (bytes_eq (text_of names f.name.0) text) ≡ true = ap not (turned text (text_of names f.name.0) (not_held names text f.name.0 none (All-head (λ (f : FieldRange). f.name.0 < length names) f fields held))) in
    let others = all_other names fields text none (All-tail (λ (f : FieldRange). f.name.0 < length names) f fields held) in
    rw (other, others)

pub name_is : (names : List (List ℕ)) (fields : List FieldRange) (text : List ℕ) (id : Option NameId) → All (λ f. f.name.0 < length names) fields → option_map (λ n. n.0) id ≡ place_of text names → IsNameFor names fields text id
name_is names fields text None held is = all_other names fields text (sym is) held
name_is names fields text (Some n) held is = (place_of-lt text names n.0 (sym is), get_or_from_slice_get names n.0 text [] (place_of-at text names n.0 (sym is)))
