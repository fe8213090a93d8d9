-- Laws of lists of which something else is made of the last element.
use Rattle.std.proofs.Common.{◌≡◌, ap, refl, suc, List, [], ◌∷◌, ◌++◌, length, map}
use Rattle.mrs_arena.specs.Nodes.{at_last}

pub length-at_last : {X : Type 0} (f : X → X) (xs : List X) → length (at_last f xs) ≡ length xs
length-at_last f [] = refl
length-at_last f (x ∷ []) = refl
length-at_last f (x ∷ y ∷ rest) = ap suc (length-at_last f (y ∷ rest))

pub at_last-push : {X : Type 0} (f : X → X) (xs : List X) (x : X) → at_last f (xs ++ x ∷ []) ≡ xs ++ f x ∷ []
at_last-push f [] x = refl
at_last-push f (y ∷ []) x = refl
at_last-push f (y ∷ z ∷ rest) x = ap (λ xs. y ∷ xs) (at_last-push f (z ∷ rest) x)

-- what the elements stand for changes at the last of them, too
pub map-at_last : {X Y : Type 0} (g : X → Y) (f : X → X) (h : Y → Y) → ((x : X) → g (f x) ≡ h (g x)) → (xs : List X) → map g (at_last f xs) ≡ at_last h (map g xs)
map-at_last g f h same [] = refl
map-at_last g f h same (x ∷ []) = ap (λ y. y ∷ []) (same x)
map-at_last g f h same (x ∷ y ∷ rest) = ap (λ ys. g x ∷ ys) (map-at_last g f h same (y ∷ rest))

-- or stays, where it does not see the change
pub map-at_last_same : {X Y : Type 0} (g : X → Y) (f : X → X) → ((x : X) → g (f x) ≡ g x) → (xs : List X) → map g (at_last f xs) ≡ map g xs
map-at_last_same g f same [] = refl
map-at_last_same g f same (x ∷ []) = ap (λ y. y ∷ []) (same x)
map-at_last_same g f same (x ∷ y ∷ rest) = ap (λ ys. g x ∷ ys) (map-at_last_same g f same (y ∷ rest))
