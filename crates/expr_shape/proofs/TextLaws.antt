-- Texts that differ.
use Rattle.std.proofs.Common.{◌≡◌, sym, refl, ℕ, Bool, true, false, List, bytes_eq}
use Rattle.std.proofs.lemmas.Slice.Eq.{bytes_eq-Decides}

pub differs : (a b : List ℕ) → (b ≡ a → ⊥) → bytes_eq a b ≡ false
differs a b ne = go (bytes_eq a b) refl
  where
    go : (t : Bool) → bytes_eq a b ≡ t → t ≡ false
    go true e = absurd (ne (sym ((bytes_eq-Decides a b).0 e)))
    go false e = refl
