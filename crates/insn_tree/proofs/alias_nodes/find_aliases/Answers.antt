use Rattle.std.proofs.Common.{◌≡◌, ◌∙◌, sym, ap, ◌<◌, [], ◌∷◌, ◌++◌, true, false, length, map, filter, arith}
use Rattle.std.specs.List.{range_with_len}
use Rattle.std.proofs.lemmas.List.{map-append}
use Rattle.std.proofs.lemmas.List.FromFn.{length-map-range_with_len}
use Rattle.std.proofs.lemmas.Option.{slice_get_within}
use Rattle.mrs_arena.specs.declared.node_id.NodeId.{NodeId}
use Rattle.mrs_arena.specs.Limits.{is_alias}
use Rattle.mrs_arena.specs.Placed.{has_kind}
use Rattle.insn_tree.specs.declared.leaf_id.LeafId.{LeafId}
use Rattle.insn_tree.specs.Leaves.{leaves_before, leaf_above}
use Rattle.insn_tree.proofs.LeafLaws.{kept_no, kept_yes, parent_below, counted-above}
use Rattle.mrs_arena.specs.Views.{node_put}
use Rattle.insn_tree.proofs.alias_nodes.find_aliases.Goals as goal

pub loop-n-preserved-then-not-is_alias : goal.loop-n-preserved-then-not-is_alias
loop-n-preserved-then-not-is_alias c =
    let other : is_alias c.node-node.result.kind ≡ false = ap is_alias (sym c.kind.ensures) ∙ sym c.is_alias.ensures ∙ c.if-not-is_alias.true in
    let same = kept_no is_alias c.args.arena.now.nodes c.loop-n.n (node_put c.args.arena.now.exprs c.node-node.result) c.node-node.ensures.own other in
    record {
      nodes = c.loop-n.invariant.nodes ∙ sym same;
      leaves = c.loop-n.invariant.leaves ∙ ap (map (leaf_above c.args.arena.now.nodes)) (sym same);
    }

pub leaf_of-requires : goal.leaf_of-requires
leaf_of-requires c =
    let within : c.loop-n.n < length c.args.before.now =
    omega (arith, slice_get_within c.args.arena.now.nodes c.loop-n.n (node_put c.args.arena.now.exprs c.node-node.result) c.node-node.ensures.own, ap length c.requires, length-map-range_with_len (leaves_before c.args.arena.now.nodes) 0 (length c.args.arena.now.nodes)) in
    parent_below c.parent.result c.node-node.result.parent c.loop-n.n (length c.args.before.now) c.parent.ensures c.node-node.ensures.parent within

pub loop-n-preserved : goal.loop-n-preserved
loop-n-preserved c =
    let alias : is_alias c.node-node.result.kind ≡ true = ap is_alias (sym c.kind.ensures) ∙ sym c.is_alias.ensures ∙ c.if-not-is_alias.false in
    let more = kept_yes is_alias c.args.arena.now.nodes c.loop-n.n (node_put c.args.arena.now.exprs c.node-node.result) c.node-node.ensures.own alias in
    let above : c.leaf_of.result.0 ≡ leaf_above c.args.arena.now.nodes c.loop-n.n =
    c.leaf_of.ensures ∙ counted-above c.args.arena.now.nodes c.args.before.now c.loop-n.n (node_put c.args.arena.now.exprs c.node-node.result) c.parent.result c.requires c.node-node.ensures.own c.parent.ensures c.node-node.ensures.parent in
    let before = filter (has_kind is_alias c.args.arena.now.nodes) (range_with_len 0 c.loop-n.n) in
    record {
      nodes = ap (map (λ (n : NodeId). n.0)) c.in_ok-push.ensures.items ∙ map-append (λ (n : NodeId). n.0) c.loop-n.nodes.items (record { 0 = c.loop-n.n } ∷ []) ∙ ap (λ ns. ns ++ c.loop-n.n ∷ []) c.loop-n.invariant.nodes ∙ sym more;
      leaves = ap (map (λ (l : LeafId). l.0)) c.in_ok-push-2.ensures.items
          ∙ map-append (λ (l : LeafId). l.0) c.loop-n.leaves.items (c.leaf_of.result ∷ [])
          ∙ ap (λ ls. ls ++ c.leaf_of.result.0 ∷ []) c.loop-n.invariant.leaves
          ∙ ap (λ l. map (leaf_above c.args.arena.now.nodes) before ++ l ∷ []) above
          ∙ sym (map-append (leaf_above c.args.arena.now.nodes) before (c.loop-n.n ∷ []))
          ∙ ap (map (leaf_above c.args.arena.now.nodes)) (sym more);
    }
