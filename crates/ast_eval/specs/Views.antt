-- What this crate's types stand for.
use Rattle.std.specs.Prelude.{Bool, Option, Some, None}
use Rattle.bit_pattern.specs.Views.{digits_of}
use Rattle.spec_expressions.specs.Truth as truth
use Rattle.spec_expressions.specs.Operations.{Value, ATruth, ANumber, APattern}
use Rattle.ast_eval.specs.declared.kleene.Truth.{Truth}
use Rattle.ast_eval.specs.declared.kleene.Truth.TheVariants.{Yes, No, Open}
use Rattle.ast_eval.specs.declared.val.Val.{Val}
use Rattle.ast_eval.specs.declared.val.Val.TheVariants as val

-- a truth as the tables have it
abbrev pub truth_of : Truth → truth.Truth
truth_of Yes = truth.Yes
truth_of No = truth.No
truth_of Open = truth.Open

-- the truth of what is known
abbrev pub known : Bool → truth.Truth
known holds = truth.truth_of holds

-- the truth of a state
abbrev pub state_truth : Option Bool → truth.Truth
state_truth (Some on) = truth.truth_of on
state_truth None = truth.Open

-- a value as the operations have it
abbrev pub value_of : Val → Value
value_of (val.Truth t) = ATruth (truth_of t)
value_of (val.Int z) = ANumber z
value_of (val.Bits p) = APattern (digits_of p)
