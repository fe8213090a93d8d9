use Rattle.std.proofs.Common.{◌≡◌, ◌∙◌, sym, ap, subst, ℕ, ◌<◌, Option, length, IfSome, arith}
use Rattle.std.proofs.lemmas.List.{length-map}
use Rattle.mrs_arena.specs.Flat.{ArenaParts}
use Rattle.mrs_arena.specs.Paths.{end_of, IsPreorder, IsSubtree}
use Rattle.mrs_arena.specs.Nodes.{parents_of}
use Rattle.mrs_arena.specs.Formed.{AreNodes}
use Rattle.mrs_arena.specs.Inside.{flat_node}
use Rattle.mrs_arena.proofs.EndLaws.{end_of-above, end_of-le, end_of-subtree}
use Rattle.mrs_arena.proofs.NodeLaws.{length-parents_of}
use Rattle.mrs_arena.proofs.ClosedLaws.{end-at, parent-at}
use Rattle.mrs_arena.proofs.arena.Arena.node.Goals as goal

within : (c : goal.After-new) → c.args.n.0 < length c.self.inside.nodes.items
within c = omega (arith, c.requires, ap (λ a. length a.nodes) c.self.view_is, length-map c.self.inside.nodes.items (flat_node c.self.inside.table.exprs c.self.inside.items.items))

end : (c : goal.After-new) → c.new.result.end ≡ end_of (parents_of c.args.self.now.nodes) c.args.n.0
end c =
    ap (λ node. node.end) c.new.ensures
    ∙ end-at c.self.inside.table.exprs c.self.inside.nodes.items c.self.inside.items.items c.args.n.0 c.index-node.result.now c.self.invariant (within c) c.index-node.ensures
    ∙ ap (λ a. end_of (parents_of a.nodes) c.args.n.0) c.self.view_is

pub returns-clause-parent : goal.returns-clause-parent
returns-clause-parent c =
    subst (λ (parent : Option ℕ). IfSome parent (λ p. p < c.args.n.0)) (sym (ap (λ node. node.parent) c.new.ensures))
    (parent-at c.self.inside.table.exprs c.self.inside.nodes.items c.self.inside.items.items c.args.n.0 c.index-node.result.now c.self.invariant (within c) c.index-node.ensures)

pub returns-clause-end : goal.returns-clause-end
returns-clause-end c = end c

pub returns-clause-after : goal.returns-clause-after
returns-clause-after c = omega (arith, end c, end_of-above (parents_of c.args.self.now.nodes) c.args.n.0)

pub returns-clause-within : goal.returns-clause-within
returns-clause-within c =
    let count = length-parents_of c.args.self.now.nodes in
    let known : c.args.n.0 < length c.args.self.now.nodes = c.requires in
    omega (arith, end c, end_of-le (parents_of c.args.self.now.nodes) c.args.n.0 (omega arith))

pub returns-clause-subtree : goal.returns-clause-subtree
returns-clause-subtree c = subst (λ (e : ℕ). IsSubtree (parents_of c.args.self.now.nodes) c.args.n.0 e) (sym (end c)) (end_of-subtree (parents_of c.args.self.now.nodes) c.args.n.0 order)
  where
    order : IsPreorder (parents_of c.args.self.now.nodes)
    order = (subst (λ (a : ArenaParts). AreNodes a.nodes) c.self.view_is c.self.invariant.formed).preorder
