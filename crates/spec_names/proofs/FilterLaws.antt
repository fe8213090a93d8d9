-- Two tests of the elements of a list.
use Rattle.std.proofs.Common.{◌≡◌, ◌∙◌, refl, ap, List, [], ◌∷◌, Bool, true, false, cond, ◌&&◌}
use Rattle.std.specs.Prelude.{filter}

kept : {X : Type 0} (p : X → Bool) (b : Bool) (x : X) (xs : List X) → filter p (cond b (x ∷ xs) xs) ≡ cond (p x && b) (x ∷ filter p xs) (filter p xs)
kept p true x xs = go (p x)
  where
    go : (b : Bool) → cond b (x ∷ filter p xs) (filter p xs) ≡ cond (b && true) (x ∷ filter p xs) (filter p xs)
    go true = refl
    go false = refl
kept p false x xs = go (p x)
  where
    go : (b : Bool) → filter p xs ≡ cond (b && false) (x ∷ filter p xs) (filter p xs)
    go true = refl
    go false = refl

-- one after the other
pub filter-both : {X : Type 0} (p q r : X → Bool) → ((x : X) → (p x && q x) ≡ r x) → (xs : List X) → filter p (filter q xs) ≡ filter r xs
filter-both p q r same [] = refl
filter-both p q r same (x ∷ xs) =
    kept p (q x) x (filter q xs)
    ∙ ap (λ b. cond b (x ∷ filter p (filter q xs)) (filter p (filter q xs))) (same x)
    ∙ ap (λ ys. cond (r x) (x ∷ ys) ys) (filter-both p q r same xs)
