-- What the search keeps beside its trail, so that questions to it need no scan.
use Rattle.std.specs.Prelude.{◌≡◌, ℕ, ◌+◌, ◌*◌, ◌<◌, ℤ, pos, negsuc, Bool, true, false, List, [], ◌∷◌, reverse, slice_index_or}
use Rattle.spec_refutation.specs.Derivation.{has}
use Rattle.feat_solve.specs.Trail.{Entry, literals, valued, decisions}

-- The place of a literal in a table: those of variable n and of its negation stand side by side.
abbrev pub place : ℤ → ℕ
place (pos n) = 2 * n
place (negsuc n) = 2 * n + 1

-- whether a table has a mark for a literal; past its end there is none
abbrev pub marked : List Bool → ℤ → Bool
marked table l = slice_index_or table (place l) false

-- the table marks the literals of the list, and no other
abbrev pub Shows : List Bool → List ℤ → Type 0
Shows table ls = (l : ℤ) → marked table l ≡ has ls l

-- no literal stands twice
abbrev pub Distinct : List ℤ → Type 0
Distinct [] = Unit {0}
Distinct (l ∷ ls) = (has ls l ≡ false) × Distinct ls

-- A table of the literals of a trail, and a variable below which each has a value.
pub record IsTabled (es : List Entry) (table : List Bool) (least : ℕ) : Type 0 where
  pub shows : Shows table (literals es)
  pub distinct : Distinct (literals es)
  pub some : 0 < least
  pub valued_below : (x : ℕ) → 0 < x → x < least → valued es x ≡ true

-- With the decided literals, oldest first.
pub record IsKept (es : List Entry) (decided : List ℤ) (table : List Bool) (least : ℕ) : Type 0 where
  pub tabled : IsTabled es table least
  pub levels : reverse decided ≡ decisions es
