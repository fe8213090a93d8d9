use Rattle.std.proofs.Common.{◌∙◌, sym, ap, subst, ℕ, List, length, arith}
use Rattle.std.proofs.lemmas.Bool.{le-leb, lt-leb}
use Rattle.spec_walk.specs.Limits.{expression_limit}
use Rattle.spec_expressions.specs.Expression.{ExprOf}
use Rattle.mrs_arena.specs.declared.expr.Expr.{Expr}
use Rattle.mrs_arena.specs.Expressions.{Expressions, HasParts, with_expr}
use Rattle.mrs_arena.specs.Table.{nested, numbers, AreMade}
use Rattle.mrs_arena.proofs.ExprLaws.{length-put, nested-push, AreMade-push}
use Rattle.mrs_arena.proofs.expr_table.ExprTable.push.Goals as goal

pub returns-then-number-ge-MOST_EXPRESSIONS-clause-too_many : goal.returns-then-number-ge-MOST_EXPRESSIONS-clause-too_many
returns-then-number-ge-MOST_EXPRESSIONS-clause-too_many c = λ _. le-leb expression_limit (length c.args.self.now.exprs) (omega (arith, c.if-number-ge-MOST_EXPRESSIONS.true, c.len-number.ensures, c.self.inside.exprs.ok.0, length-put c.self.inside.exprs.items (numbers c.self.inside.parts.items) _ c.self.view_is))

pub invariant_of-self-2 : goal.invariant_of-self-2
invariant_of-self-2 c =
    let es = c.self.inside.exprs.items in
    let parts = numbers c.self.inside.parts.items in
    let many = length-put es parts c.args.self.now c.self.view_is in
    let has = subst (λ (n : ℕ). HasParts n parts c.args.e) many (subst (λ (put : Expressions). HasParts (length c.args.self.now.exprs) put.parts c.args.e) (sym c.self.view_is) c.requires) in
    subst (λ (new : List Expr). AreMade new parts) (sym c.in_ok-push.ensures.items)
    (AreMade-push es parts c.args.e c.self.invariant (omega (arith, c.if-number-ge-MOST_EXPRESSIONS.false, c.len-number.ensures, c.self.inside.exprs.ok.0)) has)

pub returns-clause-number : goal.returns-clause-number
returns-clause-number c = omega (arith, c.len-number.ensures, c.self.inside.exprs.ok.0, length-put c.self.inside.exprs.items (numbers c.self.inside.parts.items) _ c.self.view_is)

abbrev with_parts : List ℕ → List (ExprOf ℕ) → Expressions
with_parts parts exprs = record { exprs = exprs; parts = parts }

abbrev pushed : Expr → Expressions → Expressions
pushed e put = record put { exprs = with_expr e put.parts put.exprs }

pub returns-clause-put : goal.returns-clause-put
returns-clause-put c =
    let parts = numbers c.self.inside.parts.items in
    ap (λ es. with_parts parts (nested parts es)) c.in_ok-push.ensures.items
    ∙ ap (with_parts parts) (nested-push parts c.self.inside.exprs.items c.args.e)
    ∙ ap (pushed c.args.e) c.self.view_is

pub returns-clause-room : goal.returns-clause-room
returns-clause-room c = lt-leb expression_limit (length c.args.self.now.exprs) (omega (arith, c.if-number-ge-MOST_EXPRESSIONS.false, c.len-number.ensures, c.self.inside.exprs.ok.0, length-put c.self.inside.exprs.items (numbers c.self.inside.parts.items) _ c.self.view_is))
