use Rattle.std.proofs.Common.{length, ap, arith}
use Rattle.mrs_arena.specs.Table.{numbers}
use Rattle.mrs_arena.proofs.ExprLaws.{length-put}
use Rattle.mrs_arena.proofs.expr_table.ExprTable.get.Goals as goal

pub read-requires-clause-within : goal.read-requires-clause-within
read-requires-clause-within c =
    omega (arith, c.requires, length-put c.self.inside.exprs.items (numbers c.self.inside.parts.items) _ c.self.view_is, ap length c.deref.ensures.value)
