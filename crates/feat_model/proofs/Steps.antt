-- One constraint more.
use Rattle.std.proofs.Common.{◌≡◌, ℕ, suc, ◌+◌, ◌<◌, ◌≤◌, ℤ, List, [], ◌∷◌, ◌++◌, map, drop, get_or, length, sym, ap, ◌∙◌, subst, arith, add-one, append_assoc}
use Rattle.std.specs.List.{AllByRecursion}
use Rattle.std.proofs.Math.Seq.{drop-cons}
use Rattle.std.proofs.lemmas.List.Sums.{sum_by-cons}
use Rattle.spec_features.specs.Formula.{Formula, Uses, size}
use Rattle.spec_features.specs.Clauses.{encoded, last_of, constraint_clauses, constraints_from}
use Rattle.spec_features.proofs.Encoding.{uses_wider, grows}
use Rattle.spec_features.proofs.Sizes.{last_few}
use Rattle.feat_model.specs.declared.formula.Formula as code
use Rattle.feat_model.specs.Views.{formula_of}
use Rattle.feat_model.specs.Encodes.{HasRoom, HasRoomForAll}

-- what is left at an index is the element there and the rest
pub left_at : (xs : List code.Formula) (i : ℕ) (x : code.Formula) → i < length xs → x ≡ get_or xs i x → map formula_of (drop i xs) ≡ formula_of x ∷ map formula_of (drop (i + 1) xs)
left_at xs i x lt is =
    ap (map formula_of) (drop-cons xs i x lt ∙ ap (λ y. y ∷ drop (suc i) xs) (sym is)) ∙ ap (λ k. formula_of x ∷ map formula_of (drop k xs)) (sym (add-one i))

all_wider : (n m : ℕ) → n ≤ m → (fs : List Formula) → AllByRecursion (Uses n) fs → AllByRecursion (Uses m) fs
all_wider n m le [] w = tt
all_wider n m le (f ∷ fs) w = (uses_wider n m le f w.0, all_wider n m le fs w.1)

pub first_room : (last : ℕ) (f : Formula) (fs all : List Formula) → all ≡ f ∷ fs → HasRoomForAll last all → HasRoom last f
first_room last f fs all is room =
    let P : List Formula → Type 0 = λ gs. HasRoomForAll last gs in
    let parts = subst P is room in
    record { uses = parts.uses.0; room = omega (arith, parts.room, sum_by-cons size f fs) }

pub rest_room : (last next : ℕ) (f : Formula) (fs all : List Formula) → all ≡ f ∷ fs → next ≡ (encoded last f).last → HasRoomForAll last all → HasRoomForAll next fs
rest_room last next f fs all is next_is room =
    let P : List Formula → Type 0 = λ gs. HasRoomForAll last gs in
    let parts = subst P is room in
    record {
      uses = all_wider last next (omega (arith, next_is, grows last f)) fs parts.uses.1;
      room = omega (arith, parts.room, next_is, last_few last f, sum_by-cons size f fs);
    }

pub rest_clauses : (last next : ℕ) (f : Formula) (fs all : List Formula) (before more : List (List ℤ)) → all ≡ f ∷ fs → next ≡ (encoded last f).last
    → more ≡ before ++ constraint_clauses (encoded last f) → more ++ constraints_from next fs ≡ before ++ constraints_from last all
rest_clauses last next f fs all before more is next_is more_is =
    ap (λ cs. cs ++ constraints_from next fs) more_is
    ∙ ap (λ n. (before ++ constraint_clauses (encoded last f)) ++ constraints_from n fs) next_is
    ∙ append_assoc before (constraint_clauses (encoded last f)) (constraints_from (encoded last f).last fs)
    ∙ ap (λ gs. before ++ constraints_from last gs) (sym is)

pub rest_last : (last next : ℕ) (f : Formula) (fs all : List Formula) → all ≡ f ∷ fs → next ≡ (encoded last f).last → last_of next fs ≡ last_of last all
rest_last last next f fs all is next_is = ap (λ n. last_of n fs) next_is ∙ ap (last_of last) (sym is)
