-- Things, each once, with other names in place of theirs.
use Rattle.std.proofs.Common.{◌≡◌, ◌∙◌, refl, ap, Bool, true, false, not, cond, List, [], ◌∷◌, map}
use Rattle.std.specs.Prelude.{filter}
use Rattle.std.specs.List.{AllByRecursion}
use Rattle.spec_names.specs.Distinct.{distinct_by}

filter_held : {M : Type 0} (p : M → Bool) (Held : M → Type 0) (xs : List M) → AllByRecursion Held xs → AllByRecursion Held (filter p xs)
filter_held p Held [] held = tt
filter_held {M} p Held (x ∷ xs) held = go (p x) (filter_held p Held xs held.1)
  where
    go : (b : Bool) → AllByRecursion Held (filter p xs) → AllByRecursion Held (cond b (x ∷ filter p xs) (filter p xs))
    go true rest = (held.0, rest)
    go false rest = rest

pub distinct_held : {M : Type 0} (same : M → M → Bool) (Held : M → Type 0) (xs : List M) → AllByRecursion Held xs → AllByRecursion Held (distinct_by same xs)
distinct_held same Held [] held = tt
distinct_held same Held (x ∷ xs) held = (held.0, filter_held (λ y. not (same y x)) Held (distinct_by same xs) (distinct_held same Held xs held.1))

module _ {M N : Type 0} (same : M → M → Bool) (again : N → N → Bool) (named : M → N) (Held : M → Type 0) (alike : (m n : M) → Held m → Held n → same m n ≡ again (named m) (named n)) where
  filter_alike : (x : M) → Held x → (xs : List M) → AllByRecursion Held xs → map named (filter (λ y. not (same y x)) xs) ≡ filter (λ y. not (again y (named x))) (map named xs)
  filter_alike x one [] held = refl
  filter_alike x one (y ∷ xs) held =
      go (same y x) (filter_alike x one xs held.1)
      ∙ ap (λ b. cond (not b) (named y ∷ filter (λ z. not (again z (named x))) (map named xs)) (filter (λ z. not (again z (named x))) (map named xs))) (alike y x held.0 one)
    where
      go : (b : Bool) → map named (filter (λ z. not (same z x)) xs) ≡ filter (λ z. not (again z (named x))) (map named xs)
          → map named (cond (not b) (y ∷ filter (λ z. not (same z x)) xs) (filter (λ z. not (same z x)) xs))
          ≡ cond (not b) (named y ∷ filter (λ z. not (again z (named x))) (map named xs)) (filter (λ z. not (again z (named x))) (map named xs))
      go true rest = rest
      go false rest = ap (λ ns. named y ∷ ns) rest

  -- names are the same where what they become is: so they are the same, each once
  pub distinct_alike : (xs : List M) → AllByRecursion Held xs → map named (distinct_by same xs) ≡ distinct_by again (map named xs)
  distinct_alike [] held = refl
  distinct_alike (x ∷ xs) held =
      ap (λ ns. named x ∷ ns)
      (filter_alike x held.0 (distinct_by same xs) (distinct_held same Held xs held.1) ∙ ap (filter (λ y. not (again y (named x)))) (distinct_alike xs held.1))
