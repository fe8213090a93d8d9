use Rattle.std.proofs.Common.{◌∙◌, sym, ap, ◌<◌, [], length, map, reverse}
use Rattle.std.proofs.lemmas.List.Elements.{All-rest}
use Rattle.mrs_arena.specs.Views.{flat_item, node_put}
use Rattle.insn_tree.specs.Upward.{upward, gathered}
use Rattle.insn_tree.specs.Visible.{with_field}
use Rattle.insn_tree.specs.Views.{flat_field}
use Rattle.insn_tree.proofs.UpwardLaws.{upward-step}
use Rattle.insn_tree.proofs.ListLaws.{map-reversed}
use Rattle.insn_tree.proofs.path_fields.visible_fields.Goals as goal

pub loop-above-preserved : goal.loop-above-preserved
loop-above-preserved c = record {
  fields = upward-step with_field c.args.arena.now.nodes c.loop-above.above-iterator c.next.new.self c.in-Some.above.0 (node_put c.args.arena.now.exprs c.node.result) (map flat_item c.items.result.now) (map flat_field c.loop-above.fields.items) (map flat_field c.push_fields.new.deeper.items) (gathered with_field c.args.arena.now.nodes c.args.n.0 [])
      c.in-Some.ensures.steps c.node.ensures.own c.items.ensures c.in_ok-push_fields.ensures c.loop-above.invariant.fields;
  nodes = All-rest (λ k. k < length c.args.arena.now.nodes) c.in-Some.above.0 c.next.new.self c.loop-above.above-iterator c.in-Some.ensures.steps c.loop-above.invariant.nodes;
}

pub returns : goal.returns
returns c =
    let h = c.in-None.ensures.steps in
    ap (map flat_field) c.reverse.ensures.items
    ∙ map-reversed flat_field c.loop-above.fields.items
    ∙ ap reverse (ap (λ path. upward with_field c.args.arena.now.nodes path (map flat_field c.loop-above.fields.items)) (sym h.0) ∙ c.loop-above.invariant.fields)
