use Rattle.std.proofs.Common.{◌≡◌, ◌∙◌, sym, ap, [], ◌∷◌, ◌++◌, true, false, length, map, arith}
use Rattle.std.proofs.lemmas.List.{map-append, length_push}
use Rattle.mrs_arena.specs.declared.node_id.NodeId.{NodeId}
use Rattle.mrs_arena.specs.Limits.{is_leaf}
use Rattle.insn_tree.proofs.LeafLaws.{kept_no, kept_yes, before_step}
use Rattle.mrs_arena.specs.Views.{node_put}
use Rattle.insn_tree.proofs.leaf_nodes.find_leaves.Goals as goal

pub loop-n-preserved-then-not-is_leaf : goal.loop-n-preserved-then-not-is_leaf
loop-n-preserved-then-not-is_leaf c =
    let other : is_leaf c.node.result.kind ≡ false = ap is_leaf (sym c.kind.ensures) ∙ sym c.is_leaf.ensures ∙ c.if-not-is_leaf.true in
    let nodes = c.loop-n.invariant.nodes in
    let few = c.loop-n.invariant.few in
    let count : c.len.result ≡ length c.loop-n.nodes.items = omega (arith, c.len.ensures, c.loop-n.nodes.ok.0) in
    record {
      nodes = nodes ∙ sym (kept_no is_leaf c.args.arena.now.nodes c.loop-n.n (node_put c.args.arena.now.exprs c.node.result) c.node.ensures.own other);
      before = before_step c.args.arena.now.nodes c.loop-n.before.items c.push.new.self.items c.loop-n.n c.len.result c.loop-n.nodes.items c.loop-n.invariant.before nodes count c.in_ok-push.ensures.items;
      few = omega arith;
    }

pub loop-n-preserved : goal.loop-n-preserved
loop-n-preserved c =
    let leaf : is_leaf c.node.result.kind ≡ true = ap is_leaf (sym c.kind.ensures) ∙ sym c.is_leaf.ensures ∙ c.if-not-is_leaf.false in
    let nodes = c.loop-n.invariant.nodes in
    let few = c.loop-n.invariant.few in
    let count : c.len.result ≡ length c.loop-n.nodes.items = omega (arith, c.len.ensures, c.loop-n.nodes.ok.0) in
    let put = c.in_ok-push-2.ensures.items in
    record {
      nodes = ap (map (λ (n : NodeId). n.0)) put ∙ map-append (λ (n : NodeId). n.0) c.loop-n.nodes.items (record { 0 = c.loop-n.n } ∷ []) ∙ ap (λ ns. ns ++ c.loop-n.n ∷ []) nodes
          ∙ sym (kept_yes is_leaf c.args.arena.now.nodes c.loop-n.n (node_put c.args.arena.now.exprs c.node.result) c.node.ensures.own leaf);
      before = before_step c.args.arena.now.nodes c.loop-n.before.items c.push.new.self.items c.loop-n.n c.len.result c.loop-n.nodes.items c.loop-n.invariant.before nodes count c.in_ok-push.ensures.items;
      few = omega (arith, ap length put, length_push c.loop-n.nodes.items (record { 0 = c.loop-n.n }));
    }
