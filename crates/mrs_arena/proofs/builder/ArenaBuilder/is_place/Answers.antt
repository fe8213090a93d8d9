use Rattle.std.proofs.Common.{◌∙◌, sym, ap, subst, ℕ, List, Option, map, option_map, Some, ◌↔◌, arith}
use Rattle.std.specs.Prelude.{IsTrue}
use Rattle.std.proofs.lemmas.Bool.{eqb-true, eq-eqb}
use Rattle.mrs_arena.specs.declared.node.StoredNode.{StoredNode}
use Rattle.mrs_arena.specs.declared.node_id.NodeId.{NodeId}
use Rattle.mrs_arena.specs.Paths.{IsPlace, IsPreorder}
use Rattle.mrs_arena.specs.Nodes.{parents_of}
use Rattle.mrs_arena.specs.Inside.{parent_of}
use Rattle.mrs_arena.proofs.LastLaws.{no_nodes, none-from}
use Rattle.mrs_arena.proofs.ClosedLaws.{parents_of-flat}
use Rattle.mrs_arena.proofs.builder.ArenaBuilder.is_place.Goals as goal

pub is_on_last_path-requires-clause-order : goal.is_on_last_path-requires-clause-order
is_on_last_path-requires-clause-order c =
    subst (λ (nodes : List StoredNode). IsPreorder (map parent_of nodes)) (sym c.deref.ensures.value)
    (subst IsPreorder (parents_of-flat c.self.inside.table.exprs c.self.inside.items.items c.self.inside.nodes.items) c.self.invariant.formed.preorder)

pub returns-in-Some : goal.returns-in-Some
returns-in-Some c =
    let parents = ap (map parent_of) c.deref.ensures.value ∙ sym (parents_of-flat c.self.inside.table.exprs c.self.inside.items.items c.self.inside.nodes.items) ∙ ap (λ b. parents_of b.nodes) c.self.view_is in
    subst (λ (parent : Option NodeId). IsTrue c.is_on_last_path.result ↔ IsPlace (parents_of c.args.self.now.nodes) (option_map (λ p. p.0) parent)) (sym c.in-Some.is)
    (subst (λ (ps : List (Option ℕ)). IsTrue c.is_on_last_path.result ↔ IsPlace ps (Some c.in-Some.parent.0)) parents c.is_on_last_path.ensures)

pub returns-in-None : goal.returns-in-None
returns-in-None c =
    let nodes = c.self.inside.nodes.items in
    let items = c.self.inside.items.items in
    let count = c.self.inside.nodes.ok.0 in
    subst (λ (parent : Option NodeId). IsTrue c.is_empty.result ↔ IsPlace (parents_of c.args.self.now.nodes) (option_map (λ p. p.0) parent)) (sym c.in-None.is) (
      λ empty. ap (λ b. parents_of b.nodes) (sym c.self.view_is) ∙ no_nodes c.self.inside.table.exprs items nodes (omega (arith, eqb-true _ _ (sym c.is_empty.ensures ∙ empty))),
      λ none.
          c.is_empty.ensures ∙ eq-eqb _ _ (omega (arith, none-from c.self.inside.table.exprs items nodes (ap (λ b. parents_of b.nodes) c.self.view_is ∙ none))),
    )
