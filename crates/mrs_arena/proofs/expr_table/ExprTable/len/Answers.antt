use Rattle.std.proofs.Common.{arith}
use Rattle.mrs_arena.specs.Table.{numbers}
use Rattle.mrs_arena.proofs.ExprLaws.{length-put}
use Rattle.mrs_arena.proofs.expr_table.ExprTable.len.Goals as goal

pub returns : goal.returns
returns c =
    omega (arith, c.len.ensures, c.self.inside.exprs.ok.0, length-put c.self.inside.exprs.items (numbers c.self.inside.parts.items) _ c.self.view_is)
