use Rattle.std.proofs.Common.{◌∙◌, sym, ap, ◌<◌, length, Option, option_map}
use Rattle.std.specs.Option.{option_or}
use Rattle.std.proofs.lemmas.List.Elements.{All-rest}
use Rattle.bit_pattern.specs.declared.range.Range.{Range}
use Rattle.ast_eval.specs.EnvView.{range_bounds}
use Rattle.ast_eval.proofs.LastLaws.{bounds_up, bounds_up-step}
use Rattle.ast_eval.proofs.deepest.range_at.Goals as goal

pub returns-in-Some-last_range : goal.returns-in-Some-last_range
returns-in-Some-last_range c =
    let nodes = c.args.arena.now.nodes in
    let up = bounds_up-step nodes c.args.name.0 c.in-Some.above.0 c.loop-above.above-iterator c.next.new.self _ _ c.last_range.result c.in-Some.ensures.steps c.node.ensures.own c.items.ensures c.last_range.ensures in
    sym (ap (λ (o : Option Range). option_or (option_map range_bounds o) (bounds_up nodes c.args.name.0 c.next.new.self)) c.in-Some-last_range.is) ∙ sym up ∙ c.loop-above.invariant.bounds

pub loop-above-preserved : goal.loop-above-preserved
loop-above-preserved c =
    let nodes = c.args.arena.now.nodes in
    let up = bounds_up-step nodes c.args.name.0 c.in-Some.above.0 c.loop-above.above-iterator c.next.new.self _ _ c.last_range.result c.in-Some.ensures.steps c.node.ensures.own c.items.ensures c.last_range.ensures in
    record {
      bounds = sym (ap (λ (o : Option Range). option_or (option_map range_bounds o) (bounds_up nodes c.args.name.0 c.next.new.self)) c.in_default.is) ∙ sym up ∙ c.loop-above.invariant.bounds;
      nodes = All-rest (λ k. k < length nodes) c.in-Some.above.0 c.next.new.self c.loop-above.above-iterator c.in-Some.ensures.steps c.loop-above.invariant.nodes;
    }
