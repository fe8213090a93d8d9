use Rattle.std.proofs.Common.{◌<◌, ◌∙◌, sym, length}
use Rattle.std.proofs.lemmas.List.Elements.{All-rest}
use Rattle.insn_tree.specs.Conditions.{is_conditioned}
use Rattle.insn_tree.proofs.ConditionLaws.{no_condition, any-step}
use Rattle.insn_tree.proofs.leaf_conditions.has_conditions.Goals as goal

pub loop-above-preserved : goal.loop-above-preserved
loop-above-preserved c =
    let none = no_condition c.args.arena.now.nodes c.args.arena.now.exprs c.in-Some.above.0 c.node.result c.condition.result c.node.ensures.own c.condition.ensures (sym c.is_some.ensures ∙ c.if-is_some.false) in record {
      left = any-step c.args.arena.now.nodes c.loop-above.above-iterator c.next.new.self c.in-Some.above.0 (is_conditioned c.args.arena.now.nodes c.args.n.0) c.in-Some.ensures.steps none c.loop-above.invariant.left;
      nodes = All-rest (λ k. k < length c.args.arena.now.nodes) c.in-Some.above.0 c.next.new.self c.loop-above.above-iterator c.in-Some.ensures.steps c.loop-above.invariant.nodes;
    }
