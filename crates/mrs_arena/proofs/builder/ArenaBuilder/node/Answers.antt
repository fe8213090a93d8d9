use Rattle.std.proofs.Common.{◌≡◌, ◌∙◌, sym, ap, subst, ◌+◌, ◌<◌, List, length, option_map, IfSome, arith}
use Rattle.spec_walk.specs.Limits.{node_limit}
use Rattle.mrs_arena.specs.declared.node.StoredNode.{StoredNode}
use Rattle.mrs_arena.specs.Flat.{Built}
use Rattle.mrs_arena.specs.Paths.{IsPlace}
use Rattle.mrs_arena.specs.Nodes.{parents_of}
use Rattle.mrs_arena.specs.Limits.{is_leaf, is_alias}
use Rattle.mrs_arena.specs.Inside.{kept_count, AreOpen}
use Rattle.mrs_arena.proofs.OpenLaws.{IfSome-place, AreOpen-push, is_node_refused-kept, counted}
use Rattle.mrs_arena.proofs.builder.ArenaBuilder.node.Goals as goal

pub named_above-requires : goal.named_above-requires
named_above-requires c =
    let place = subst (λ (b : Built). IsPlace (parents_of b.nodes) (option_map (λ p. p.0) c.args.parent)) (sym c.self.view_is) c.requires in
    subst (λ (ns : List StoredNode). IfSome c.args.parent (λ p. p.0 < length ns)) (sym c.deref.ensures.value) (IfSome-place c.self.inside.table.exprs c.self.inside.items.items c.self.inside.nodes.items c.args.parent place)

pub invariant_of-self-2 : goal.invariant_of-self-2
invariant_of-self-2 c =
    let exprs = c.self.inside.table.exprs in
    let nodes = c.self.inside.nodes.items in
    let items = c.self.inside.items.items in
    let leaves = c.self.inside.leaves in
    let aliases = c.self.inside.aliases in
    let parent = option_map (λ p. p.0) c.args.parent in
    let from : c.len.result ≡ length items = omega (arith, c.len.ensures, c.self.inside.items.ok.0) in
    let to : c.len-2.result ≡ length items = omega (arith, c.len-2.ensures, c.self.inside.items.ok.0) in
    let named = c.named_above.ensures ∙ ap (λ ns. kept_count ns parent) c.deref.ensures.value in
    let place = subst (λ (b : Built). IsPlace (parents_of b.nodes) parent) (sym c.self.view_is) c.requires in
    let few : length nodes < node_limit = omega (arith, c.if-number-ge-MOST_NODES.false, c.len-number.ensures, c.self.inside.nodes.ok.0) in
    let room = is_node_refused-kept exprs nodes items leaves aliases c.args.kind c.self.invariant few (sym c.if-is_full.ensures) in
    let more_leaves = counted leaves c.from.result c.is_leaf.result (is_leaf c.args.kind) c.from.ensures c.is_leaf.ensures in
    let more_aliases = counted aliases c.from-2.result c.is_alias.result (is_alias c.args.kind) c.from-2.ensures c.is_alias.ensures in
    subst (λ (ns : List StoredNode). AreOpen exprs ns items (leaves + c.from.result) (aliases + c.from-2.result)) (sym c.in_ok-push.ensures.items)
    (AreOpen-push exprs nodes items leaves aliases _ (leaves + c.from.result) (aliases + c.from-2.result) c.self.invariant (tt, tt) from to named place room more_leaves more_aliases)

pub returns-clause-formed : goal.returns-clause-formed
returns-clause-formed c = (invariant_of-self-2 c).formed
