use Rattle.std.proofs.Common.{refl, Some, codes}
use Rattle.mrs_walk.specs.Here.{spot_of}
use Rattle.mrs_walk.proofs.AnswerLaws.{Puts-exit}
use Rattle.schema_draft.specs.Drafted.{counts, with_preferred}
use Rattle.instructions_reader.proofs.ConditionLaws.{said_returns, said_fails}
use Rattle.instructions_reader.proofs.aliases.read_preferred.Goals as goal

pub returns-in_err-e-in-Some-clause-walk : goal.returns-in_err-e-in-Some-clause-walk
returns-in_err-e-in-Some-clause-walk c =
    Puts-exit c.from_residual.result _ _ _ _ _ c.from_residual.ensures.1 (said_fails (codes "preferred") _ (spot_of c.args.here.now) (spot_of c.in-Some.preferred) (counts c.args.draft.now) c.in-Some.ensures c.in_err-e-in-Some.ensures.walk)

pub returns-in_ok-e-in-Some-clause-walk : goal.returns-in_ok-e-in-Some-clause-walk
returns-in_ok-e-in-Some-clause-walk c =
    said_returns (λ x own. record own { preferred = Some x }) (λ x own. refl) with_preferred (λ x nodes. refl) (codes "preferred") (spot_of c.args.here.now) (spot_of c.in-Some.preferred) c.args.draft.now c.read_expression.new.draft c.preferred.new.self c.in_ok-e-in-Some.e.0 c.in-Some.ensures c.in_ok-e-in-Some.ensures.walk c.in_ok-e-in-Some.ensures.nodes c.preferred.ensures
