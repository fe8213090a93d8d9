use Rattle.std.proofs.Common.{rules}
use Rattle.spec_refutation.specs.Refutation.{Refutes}
use Rattle.spec_refutation.proofs.Sound.{refutes_sound}
use Rattle.feat_proof.proofs.checker.check.Goals as goal

pub returns-then-has_empty-clause-sound : goal.returns-then-has_empty-clause-sound
returns-then-has_empty-clause-sound c _ =
    let r : Refutes c.args.cnf.now.1 c.args.log.now = search rules in
    refutes_sound c.args.cnf.now.1 c.args.log.now r
