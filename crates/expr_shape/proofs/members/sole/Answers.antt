use Rattle.std.proofs.Common.{sym, arith}
use Rattle.expr_shape.proofs.ArrayLaws.{the_one-several}
use Rattle.expr_shape.proofs.members.sole.Goals as goal

pub returns-in-len2-up : goal.returns-in-len2-up
returns-in-len2-up c = sym (the_one-several c.args.list.now (omega arith))
