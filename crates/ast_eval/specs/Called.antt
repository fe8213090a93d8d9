-- Functions of the value of their one argument.
use Rattle.std.specs.Prelude.{ℕ}
use Rattle.spec_expressions.specs.Expression.{FunctionOf, UInt, IsZero, IsOnes, IsFeatureImplemented, Named}
use Rattle.spec_expressions.specs.Truth.{Open}
use Rattle.spec_expressions.specs.Operations.{Value, ATruth, unsigned, all_are}

abbrev pub called_with : FunctionOf ℕ → Value → Value
called_with UInt v = unsigned v
called_with IsZero v = ATruth (all_are 0 v)
called_with IsOnes v = ATruth (all_are 1 v)
called_with IsFeatureImplemented v = ATruth Open
called_with (Named name) v = ATruth Open
