use Rattle.std.proofs.Common.{◌∙◌, sym, ap, map, subst, List}
use Rattle.std.specs.Prelude.{slice_range}
use Rattle.std.specs.List.{list_any}
use Rattle.mrs_arena.specs.declared.node.StoredNode.{StoredNode}
use Rattle.mrs_arena.specs.Views.{flat_item}
use Rattle.mrs_arena.specs.Nodes.{last_items, has_name_id}
use Rattle.mrs_arena.proofs.LastLaws.{IsLast, IsLast-get, last_items-last}
use Rattle.mrs_arena.proofs.builder.ArenaBuilder.is_taken.Goals as goal

pub returns-in-Some : goal.returns-in-Some
returns-in-Some c =
    let node = c.in-Some.node.now in
    let last = subst (λ (ns : List StoredNode). IsLast ns node) c.deref.ensures.value (IsLast-get c.deref.result.now node c.in-Some.ensures.value) in
    let items = ap (λ its. map flat_item (slice_range its node.from node.to)) c.deref-in-Some.ensures.value in
    c.is_name_of_one.ensures
    ∙ ap (λ its. list_any (has_name_id c.args.name.0) its) (items ∙ sym (last_items-last c.self.inside.table.exprs c.self.inside.nodes.items node c.self.inside.items.items last) ∙ ap (λ b. last_items b.nodes) c.self.view_is)
