-- Laws of the texts of names.
use Rattle.std.proofs.Common.{◌≡◌, ◌∙◌, sym, ap, refl, ℕ, zero, suc, ◌<◌, ◌==◌, List, [], ◌∷◌, length, get_or, slice_get, Some, bytes_eq, arith}
use Rattle.std.proofs.lemmas.Bool.Decides.{Decides-eqb, Decides-like, same_from_decides}
use Rattle.std.proofs.lemmas.Slice.Eq.{bytes_eq-Decides}
use Rattle.mrs_names.specs.Texts.{place_of, AreNames}
use Rattle.mrs_arena.specs.Placed.{text_of}

-- an element within a list is got
pub slice_get-within : {X : Type 0} (xs : List X) (k : ℕ) (d : X) → k < length xs → slice_get xs k ≡ Some (get_or xs k d)
slice_get-within [] k d h = absurd (omega arith)
slice_get-within (x ∷ xs) zero d h = refl
slice_get-within (x ∷ xs) (suc k) d h = slice_get-within xs k d (omega arith)

-- texts that are equal have one number
pub same_number : (names : List (List ℕ)) (a b : ℕ) → AreNames names → a < length names → b < length names → text_of names a ≡ text_of names b → b ≡ a
same_number names a b are ha hb same =
    let first = are.distinct a (text_of names a) (slice_get-within names a [] ha) in
    let second = are.distinct b (text_of names b) (slice_get-within names b [] hb) in
    let joined : Some b ≡ Some a = sym second ∙ ap (λ text. place_of text names) (sym same) ∙ first in
    cc

pub text_eq : (names : List (List ℕ)) (a b : ℕ) → AreNames names → a < length names → b < length names → bytes_eq (text_of names a) (text_of names b) ≡ (b == a)
text_eq names a b are ha hb =
    same_from_decides (bytes_eq (text_of names a) (text_of names b)) (b == a)
    (Decides-like (bytes_eq (text_of names a) (text_of names b)) (λ e. same_number names a b are ha hb e) (λ e. ap (text_of names) (sym e)) (bytes_eq-Decides (text_of names a) (text_of names b)))
    (Decides-eqb b a)
