use Rattle.std.proofs.Common.{◌∙◌, sym, ap, ◌+◌, cond, arith}
use Rattle.mrs_arena.specs.Limits.{is_leaf, is_alias}
use Rattle.mrs_arena.specs.Views.{node_put}
use Rattle.mrs_arena.proofs.OpenLaws.{counted}
use Rattle.release_opening.proofs.CountLaws.{kept_more, one_at_most}
use Rattle.release_opening.proofs.counting.count_nodes.Goals as goal

pub loop-n-preserved : goal.loop-n-preserved
loop-n-preserved c =
    let nodes = c.args.arena.now.nodes in
    let put = node_put c.args.arena.now.exprs c.node.result in
    let a_leaf = is_leaf c.node.result.kind in
    let an_alias = is_alias c.node.result.kind in
    let leaves = counted c.loop-n.leaves c.from-leaves.result c.is_leaf.result a_leaf c.from-leaves.ensures (c.is_leaf.ensures ∙ ap is_leaf c.kind-kind.ensures) in
    let aliases = counted c.loop-n.aliases c.from-aliases.result c.is_alias.result an_alias c.from-aliases.ensures (c.is_alias.ensures ∙ ap is_alias c.kind-kind.ensures) in
    let few_leaves = c.loop-n.invariant.few_leaves in
    let few_aliases = c.loop-n.invariant.few_aliases in
    record {
      leaves = leaves ∙ ap (λ k. k + cond a_leaf 1 0) c.loop-n.invariant.leaves ∙ sym (kept_more is_leaf nodes c.loop-n.n put c.node.ensures.own);
      aliases = aliases ∙ ap (λ k. k + cond an_alias 1 0) c.loop-n.invariant.aliases ∙ sym (kept_more is_alias nodes c.loop-n.n put c.node.ensures.own);
      few_leaves = omega (arith, leaves, few_leaves, one_at_most a_leaf);
      few_aliases = omega (arith, aliases, few_aliases, one_at_most an_alias);
    }
