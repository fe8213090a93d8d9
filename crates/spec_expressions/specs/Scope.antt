-- What names mean where an expression stands: fields of the word that are visible there, and parameters.
use Rattle.std.specs.Prelude.{ℕ, List, Bool, Option, bytes_eq, find, option_map}
use Rattle.spec_bits.specs.Bits.{slice}
use Rattle.spec_bits.specs.Pattern.{Digit}
use Rattle.spec_expressions.specs.Digits.{low_digits}

-- ---- fields

-- a field of the word: its name, its lowest bit and how many bits it has
pub record Field : Type 0 where
  pub name : List ℕ
  pub start : ℕ
  pub width : ℕ

abbrev pub field_named : List ℕ → List Field → Option Field
field_named s fields = find (λ f. bytes_eq f.name s) fields

-- the bits that a word has in a field
abbrev pub field_digits : Field → ℕ → List Digit
field_digits f w = low_digits f.width (slice w f.start f.width)

-- ---- parameters

-- what a configuration chooses for a parameter: a boolean one is on or off
pub data State : Type 0 where
  Flag : Bool → State

pub record Parameter : Type 0 where
  pub name : List ℕ
  pub state : State

-- a configuration: a state for each parameter that can have one (today the boolean ones), in order, with distinct names,
-- and whether each free atom of the constraints holds. Atoms play no part in values
pub record Configuration : Type 0 where
  pub parameters : List Parameter
  pub atoms : List Bool

abbrev pub state_of : List ℕ → Configuration → Option State
state_of s g = option_map (λ p. p.state) (find (λ p. bytes_eq p.name s) g.parameters)
