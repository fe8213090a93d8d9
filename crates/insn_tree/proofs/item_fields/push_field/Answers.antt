use Rattle.std.proofs.Common.{◌∙◌, sym, ap, refl, map}
use Rattle.std.specs.List.{list_any}
use Rattle.insn_tree.specs.Visible.{has_field_name}
use Rattle.insn_tree.specs.Views.{flat_field}
use Rattle.insn_tree.proofs.VisibleLaws.{field_put}
use Rattle.insn_tree.proofs.item_fields.push_field.Goals as goal

pub returns : goal.returns
returns c =
    let free = ap (λ fields. list_any (has_field_name c.in-Some.name.0) (map flat_field fields)) (sym c.deref.ensures.value) ∙ sym c.is_taken.ensures ∙ c.if-is_taken.false in
    field_put c.args.it.now c.in-Some.name c.args.deeper.now.items c.push.new.self.items _ c.in-Some.is free c.in_ok-push.ensures.items refl refl refl
