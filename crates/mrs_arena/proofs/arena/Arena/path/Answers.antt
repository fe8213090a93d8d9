use Rattle.std.proofs.Common.{◌≡◌, ◌∙◌, sym, ap, subst, ℕ, List, length, map, All, ◌≤◌, arith}
use Rattle.mrs_arena.specs.declared.node.StoredNode.{StoredNode}
use Rattle.mrs_arena.specs.Paths.{ancestors, IsPreorder}
use Rattle.mrs_arena.specs.Nodes.{parents_of}
use Rattle.mrs_arena.specs.Inside.{parent_of}
use Rattle.mrs_arena.proofs.PathLaws.{ancestors-all, length-ancestors}
use Rattle.mrs_arena.proofs.ClosedLaws.{parents_of-flat}
use Rattle.mrs_arena.proofs.arena.Arena.path.Goals as goal

pub new-requires-clause-order : goal.new-requires-clause-order
new-requires-clause-order c =
    subst (λ (nodes : List StoredNode). IsPreorder (map parent_of nodes)) (sym c.deref.ensures.value)
    (subst IsPreorder (parents_of-flat c.self.inside.table.exprs c.self.inside.items.items c.self.inside.nodes.items) c.self.invariant.formed.preorder)

path : (c : goal.After-new) → c.new.result ≡ ancestors (parents_of c.args.self.now.nodes) c.args.n.0
path c =
    c.new.ensures ∙ ap (λ nodes. ancestors (map parent_of nodes) c.args.n.0) c.deref.ensures.value
    ∙ ap (λ parents. ancestors parents c.args.n.0) (sym (parents_of-flat c.self.inside.table.exprs c.self.inside.items.items c.self.inside.nodes.items))
    ∙ ap (λ a. ancestors (parents_of a.nodes) c.args.n.0) c.self.view_is

pub returns-clause-path : goal.returns-clause-path
returns-clause-path c = path c

pub returns-clause-nodes : goal.returns-clause-nodes
returns-clause-nodes c = subst (λ (ns : List ℕ). All (λ k. k ≤ c.args.n.0) ns) (sym (path c)) (ancestors-all (parents_of c.args.self.now.nodes) c.args.n.0)

pub returns-clause-few : goal.returns-clause-few
returns-clause-few c = omega (arith, ap length (path c), length-ancestors (parents_of c.args.self.now.nodes) c.args.n.0)
