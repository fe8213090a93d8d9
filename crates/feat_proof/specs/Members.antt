-- When two lists of literals are one set.
use Rattle.std.specs.Prelude.{◌≡◌, ℤ, List}
use Rattle.spec_refutation.specs.Derivation.{has}

-- They have the same members.
abbrev pub SameMembers : List ℤ → List ℤ → Type 0
SameMembers xs ys = (l : ℤ) → has xs l ≡ has ys l
