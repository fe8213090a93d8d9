-- The first place at which a test passes.
use Rattle.std.proofs.Common.{◌≡◌, ℕ, ◌+◌, Bool, cond, List, [], ◌∷◌, length, map, Some, None, refl, sym, ap, ◌∙◌}
use Rattle.std.specs.List.{position, position_or_len}
use Rattle.std.specs.Prelude.{nat_lt}
use Rattle.std.proofs.lemmas.List.{length-map}
use Rattle.std.proofs.lemmas.List.Recursion.{is_position_or_len}

-- the place, or the length
abbrev place : {X : Type 0} → (X → Bool) → List X → ℕ
place p [] = 0
place p (x ∷ xs) = cond (p x) 0 (1 + place p xs)

place_is : {X : Type 0} (p : X → Bool) (xs : List X) → place p xs ≡ position_or_len p xs
place_is p xs = is_position_or_len (place p) p refl (λ x xs. refl) xs

-- a test that passes alike at what a function makes of the elements has one first place
pub position-map : {X Y : Type 0} (p : Y → Bool) (q : X → Bool) (f : X → Y) (xs : List X) → ((x : X) → p (f x) ≡ q x) → position p (map f xs) ≡ position q xs
position-map {X} p q f xs same =
    let e : position_or_len p (map f xs) ≡ position_or_len q xs = sym (place_is p (map f xs)) ∙ places xs ∙ place_is q xs in
    ap (λ n. cond (nat_lt n (length (map f xs))) (Some n) None) e ∙ ap (λ k. cond (nat_lt (position_or_len q xs) k) (Some (position_or_len q xs)) None) (length-map xs f)
  where
    places : (xs : List X) → place p (map f xs) ≡ place q xs
    places [] = refl
    places (x ∷ xs) = ap (λ b. cond b 0 (1 + place p (map f xs))) (same x) ∙ ap (λ n. cond (q x) 0 (1 + n)) (places xs)
