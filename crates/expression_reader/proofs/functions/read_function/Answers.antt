use Rattle.std.proofs.Common.{◌∙◌, ap}
use Rattle.spec_expressions.specs.Expression as e
use Rattle.mrs_walk.specs.Here.{spot_of}
use Rattle.mrs_walk.proofs.AnswerLaws.{Puts-exit}
use Rattle.schema_draft.specs.Drafted.{counts}
use Rattle.expression_reader.proofs.ExprsLaws.{function_other, function_fails, function_named_returns, named_value}
use Rattle.expression_reader.proofs.functions.read_function.Goals as goal

pub returns-in_err-name-in_default-clause-walk : goal.returns-in_err-name-in_default-clause-walk
returns-in_err-name-in_default-clause-walk c =
    let none = c.in_default in
    let other = function_other c.args.name.now none.not-UInt none.not-IsZero none.not-IsOnes none.not-IsFeatureImplemented in
    Puts-exit c.from_residual.result _ _ _ _ _ c.from_residual.ensures.1 (function_fails _ (spot_of c.args.here.now) c.args.name.now (counts c.args.draft.now) other c.in_err-name-in_default.ensures.steps)

pub returns-in_ok-name-in_default-clause-walk : goal.returns-in_ok-name-in_default-clause-walk
returns-in_ok-name-in_default-clause-walk c =
    let here = spot_of c.args.here.now in
    let name = c.args.name.now in
    let n = c.in_ok-name-in_default.ensures.steps in
    let none = c.in_default in
    let other = function_other name none.not-UInt none.not-IsZero none.not-IsOnes none.not-IsFeatureImplemented in record {
      value = e.Named name;
      walked = function_named_returns here name n.value (counts c.args.draft.now) _ other n.walked;
      stands = (ap e.Named (n.stands.1 ∙ named_value here name n.value (counts c.args.draft.now) (counts c.name.new.self) n.walked), n.stands.0);
    }
