use Rattle.std.proofs.lemmas.Result.{IfOk-weaker}
use Rattle.insn_decode.proofs.SplitLaws.{side_fewer}
use Rattle.insn_decode.proofs.splitting.side.Goals as goal

pub returns-clause-fewer : goal.returns-clause-fewer
returns-clause-fewer c =
    IfOk-weaker c.agreeing.result _ _ (λ some is. side_fewer c.args.i c.args.v c.args.members.now some.items c.requires.next c.requires.value is) c.agreeing.ensures
