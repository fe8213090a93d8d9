use Rattle.std.proofs.Common.{codes}
use Rattle.expr_shape.proofs.TextLaws.{differs}
use Rattle.expr_shape.proofs.kind.kind_named.Goals as goal

pub returns-in_default : goal.returns-in_default
returns-in_default c =
    let text = c.args.text.now in
    let none = c.in_default in
    rw (
      differs (codes "AST.Bool") text none.not-text,
      differs (codes "AST.Integer") text none.not-text-2,
      differs (codes "Values.Value") text none.not-text-3,
      differs (codes "AST.Identifier") text none.not-text-4,
      differs (codes "AST.UnaryOp") text none.not-text-5,
      differs (codes "AST.BinaryOp") text none.not-text-6,
      differs (codes "AST.Function") text none.not-text-7,
      differs (codes "AST.Set") text none.not-text-8,
      differs (codes "AST.Concat") text none.not-text-9,
      differs (codes "AST.SquareOp") text none.not-text-10,
    )
