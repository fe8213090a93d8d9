use Rattle.std.proofs.Common.{◌≡◌, drop}
use Rattle.spec_expressions.specs.Truth.{disjunction}
use Rattle.spec_expressions.specs.Operations.{among, in_a_row}
use Rattle.ast_eval.specs.Rows.{joined_with}
use Rattle.ast_eval.specs.Views.{truth_of, value_of}
use Rattle.ast_eval.proofs.PartLaws.{worths}
use Rattle.ast_eval.proofs.evaluate.+evaluate.Given as goal

abbrev pub decreases-evaluate : goal.decreases-evaluate
decreases-evaluate l = l.e.0

abbrev pub decreases-member : goal.decreases-member
decreases-member l = l.right.0

-- what was joined and the parts that are left are all parts joined
abbrev pub invariant-evaluate-loop-part : goal.invariant-evaluate-loop-part
invariant-evaluate-loop-part l = joined_with l.row (worths l.arena.exprs l.config l.env l.w (drop l.part-index l.parts)) ≡ in_a_row (worths l.fn.arena.exprs l.fn.config l.fn.env l.fn.w l.parts)

-- the value is among all parts where it was found or is among those that are left
abbrev pub invariant-member-loop-part : goal.invariant-member-loop-part
invariant-member-loop-part l =
    disjunction (truth_of l.is_among) (among (value_of l.left) (worths l.arena.exprs l.config l.env l.w (drop l.part-index l.parts))) ≡ among (value_of l.fn.left) (worths l.fn.arena.exprs l.fn.config l.fn.env l.fn.w l.parts)
