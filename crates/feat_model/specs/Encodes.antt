-- What is made of a formula.
use Rattle.std.specs.Prelude.{◌≡◌, ℕ, ◌+◌, ◌≤◌, ℤ, List, ◌++◌, sum_by}
use Rattle.std.specs.List.{AllByRecursion}
use Rattle.spec_features.specs.Formula.{Formula, Uses, size}
use Rattle.spec_features.specs.Clauses.{encoded}

-- variables of the formula's own and of auxiliaries stay within the numbers of literals
pub record HasRoom (last : ℕ) (f : Formula) : Type 0 where
  pub uses : Uses last f
  pub room : last + size f ≤ 2147483647

-- the same of formulas one behind the other
pub record HasRoomForAll (last : ℕ) (fs : List Formula) : Type 0 where
  pub uses : AllByRecursion (Uses last) fs
  pub room : last + sum_by size fs ≤ 2147483647

-- behind earlier clauses stand those of a formula, whose literal and last variable are these
pub record Encodes (f : Formula) (last : ℕ) (before : List (List ℤ)) (literal : ℤ) (now : ℕ) (clauses : List (List ℤ)) : Type 0 where
  pub literal_is : literal ≡ (encoded last f).literal
  pub last_is : now ≡ (encoded last f).last
  pub clauses_are : clauses ≡ before ++ (encoded last f).clauses
