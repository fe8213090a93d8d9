-- The clauses of a model are within the limits of the solver.
use Rattle.std.proofs.Common.{◌≡◌, ℕ, ◌<◌, ◌≤◌, ℤ, List, [], ◌∷◌, length, Option, Some, None, Result, Ok, Err, nat_eq, sym, subst, arith}
use Rattle.std.specs.Prelude.{IfOk}
use Rattle.std.specs.List.{AllByRecursion, filter_map, cons_option}
use Rattle.std.proofs.lemmas.List.{length-append}
use Rattle.spec_refutation.specs.Reading.{IsClause}
use Rattle.spec_features.specs.Theory.{TheoryOf, states}
use Rattle.spec_features.specs.Fits.{PinOf}
use Rattle.spec_features.specs.Clauses.{pin_clause, constraints_from, variables, clauses}
use Rattle.spec_features.proofs.Firsts.{theory_bounded}
use Rattle.spec_features.proofs.Sizes.{all_last_few, all_clauses_few}
use Rattle.feat_model.specs.Inside.{IsModel}

filter_map_few : {X Y : Type 0} (f : X → Option Y) (xs : List X) → length (filter_map f xs) ≤ length xs
filter_map_few f [] = omega arith
filter_map_few f (x ∷ xs) = go (f x) (filter_map_few f xs)
  where
    go : (o : Option _) → length (filter_map f xs) ≤ length xs → length (cons_option o (filter_map f xs)) ≤ length (x ∷ xs)
    go None le = omega (arith, le)
    go (Some y) le = omega (arith, le)

pub made_within : {E : Type 0} (t : TheoryOf ℕ) (pins : List (PinOf ℕ)) (r : Result (ℕ × List (List ℤ)) E) → IsModel t → IfOk r (λ c. c ≡ (variables t, clauses nat_eq t pins)) → IfOk r (λ c. AllByRecursion (IsClause c.0) c.1)
made_within t pins (Err e) is made = tt
made_within t pins (Ok c) is made =
    let P : ℕ × List (List ℤ) → Type 0 = λ d. AllByRecursion (IsClause d.0) d.1 in
    subst P (sym made) (theory_bounded nat_eq t is.closed pins)

pub made_few : {E : Type 0} (t : TheoryOf ℕ) (pins : List (PinOf ℕ)) (r : Result (ℕ × List (List ℤ)) E) → IsModel t → length pins ≤ 4096 → IfOk r (λ c. c ≡ (variables t, clauses nat_eq t pins))
    → IfOk r (λ c. (c.0 ≤ 2147483647) × (length c.1 < 2147483648))
made_few t pins (Err e) is few made = tt
made_few t pins (Ok c) is few made =
    let P : ℕ × List (List ℤ) → Type 0 = λ d. (d.0 ≤ 2147483647) × (length d.1 < 2147483648) in
    let own = constraints_from (states t) t.constraints in
    subst P (sym made) (
      omega (arith, all_last_few (states t) t.constraints, is.few_names, is.few_atoms, is.few_parts),
      omega (arith, all_clauses_few (states t) t.constraints, is.few_parts, filter_map_few (pin_clause nat_eq t.names) pins, few, length-append own (filter_map (pin_clause nat_eq t.names) pins)),
    )
