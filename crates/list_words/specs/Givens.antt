-- What the code keeps of the pairs of a line: those before the first whose name no field has, and how many there are in all.
use Rattle.std.specs.Prelude.{◌≡◌, ◌<◌, ◌≤◌, ℕ, List, [], length, map, take, slice_index_or, All, true, Result, Ok, Err}
use Rattle.std.specs.List.{list_all}
use Rattle.spec_lines.specs.LineFault as fault
use Rattle.spec_lines.specs.Token.{Token}
use Rattle.spec_lines.specs.Given as spec
use Rattle.mrs_names.specs.declared.name_id.NameId.{NameId}
use Rattle.insn_tree.specs.declared.field_range.FieldRange.{FieldRange}
use Rattle.insn_tree.specs.Trees.{TreeParts}
use Rattle.insn_encode.specs.Held.{pair_by}
use Rattle.list_words.specs.declared.line_fault.LineFault.{LineFault}
use Rattle.list_words.specs.declared.given.Given.{Given}
use Rattle.list_words.specs.Names.{is_other}
use Rattle.list_words.specs.Faults.{IsRefused}

pub record IsGiven (names : List (List ℕ)) (fields : List FieldRange) (code : Given) (given : spec.Given) : Type 0 where
  pub rest : code.rest ≡ given.rest
  pub count : code.count ≡ length given.pairs
  pub few : length given.pairs ≤ 256
  pub within : length code.pairs ≤ length given.pairs
  pub held : All (λ (pair : NameId × ℕ). pair.0.0 < length names) code.pairs
  pub same : map (pair_by names) code.pairs ≡ take (length code.pairs) given.pairs
  pub other : length code.pairs < length given.pairs → list_all (is_other names (slice_index_or given.pairs (length code.pairs) ([], 0)).0) fields ≡ true

-- what is given by the code is given by the definition
pub record IsSome (names : List (List ℕ)) (fields : List FieldRange) (code : Given) (told : Result spec.Given fault.LineFault) : Type 0 where
  pub given : spec.Given
  pub is : told ≡ Ok given
  pub given_is : IsGiven names fields code given

-- what was given before a token and is given with it, or its refusal
abbrev pub Puts : {X : Type 0} → List (List ℕ) → List FieldRange → Given → Result X LineFault → Result spec.Given fault.LineFault → Type 0
Puts names fields code (Ok x) told = IsSome names fields code told
Puts names fields code (Err why) told = (tree : TreeParts) → IsRefused names tree why told

-- so far: what is left of the tokens gives behind it what all give
pub record IsSoFar (names : List (List ℕ)) (fields : List FieldRange) (code : Given) (left all : List Token) : Type 0 where
  pub given : spec.Given
  pub given_is : IsGiven names fields code given
  pub left_is : spec.given_behind given left ≡ spec.given_behind spec.nothing all
