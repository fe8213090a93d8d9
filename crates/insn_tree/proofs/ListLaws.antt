-- Laws of lists that are mapped.
use Rattle.std.proofs.Common.{◌≡◌, ◌∙◌, sym, ap, refl, subst, ℕ, ◌+◌, ◌<◌, List, [], ◌∷◌, ◌++◌, length, map, reverse, drop, get_or, All, arith, append_assoc}
use Rattle.std.proofs.lemmas.List.{length-map, drop_more, get_or_default}
use Rattle.std.proofs.Math.ListN as mathlib
use Rattle.std.proofs.lemmas.List as std

pub map-twice : {X Y Z : Type 0} (f : X → Y) (g : Y → Z) (xs : List X) → map g (map f xs) ≡ map (λ x. g (f x)) xs
map-twice f g [] = refl
map-twice f g (x ∷ xs) = ap (λ ys. g (f x) ∷ ys) (map-twice f g xs)

pub All-unmap : {X Y : Type 0} (P : Y → Type 0) (f : X → Y) (xs : List X) → All P (map f xs) → All (λ x. P (f x)) xs
All-unmap P f xs all k d h = subst P (mathlib.get_or-map f xs k d) (all k (f d) (omega (arith, length-map xs f)))

-- an element of a list, where the list's image is known
pub image-at : {X Y : Type 0} (f : X → Y) (xs : List X) (ys : List Y) → map f xs ≡ ys → (k : ℕ) (x : X) (d : Y) → k < length ys → x ≡ get_or xs k x → f x ≡ get_or ys k d
image-at f xs ys same k x d h at =
    ap f at ∙ sym (mathlib.get_or-map f xs k x) ∙ ap (λ zs. get_or zs k (f x)) same ∙ get_or_default ys k (f x) d h

-- a loop that puts the image of each element in turn
pub fill_step : {X Y : Type 0} (f : X → Y) (done new : List Y) (xs : List X) (i : ℕ) (d : X) (y : Y) → i < length xs → new ≡ done ++ y ∷ [] → y ≡ f (get_or xs i d) → done ++ map f (drop i xs) ≡ map f xs → new ++ map f (drop (i + 1) xs) ≡ map f xs
fill_step f done new xs i d y within put is before =
    ap (λ zs. zs ++ map f (drop (i + 1) xs)) put
    ∙ append_assoc done (y ∷ []) (map f (drop (i + 1) xs))
    ∙ ap (λ z. done ++ z ∷ map f (drop (i + 1) xs)) is
    ∙ ap (λ rest. done ++ map f rest) (sym (drop_more xs i d within))
    ∙ before

pub map-reversed : {X Y : Type 0} (f : X → Y) (xs : List X) → map f (reverse xs) ≡ reverse (map f xs)
map-reversed f [] = refl
map-reversed f (x ∷ xs) =
    ap (map f) (std.reverse-append (x ∷ []) xs) ∙ std.map-append f (reverse xs) (x ∷ []) ∙ ap (λ ys. ys ++ f x ∷ []) (map-reversed f xs) ∙ sym (std.reverse-append (f x ∷ []) (map f xs))
