use Rattle.std.proofs.Common.{◌≡◌, ◌∙◌, ap, ◌++◌, [], ◌∷◌, map, length, arith}
use Rattle.insn_tree.specs.Views.{flat_field}
use Rattle.insn_tree.specs.Parts.{part_of}
use Rattle.insn_tree.proofs.PartLaws.{part-put}
use Rattle.insn_tree.proofs.field_table.FieldTable.push.Goals as goal

pub returns : goal.returns
returns c =
    let old = c.self.inside.fields.items in
    let more = c.in_ok-extend_from_slice.ensures.items in
    let starts : c.len-from.result ≡ length old = omega (arith, c.len-from.ensures, c.self.inside.fields.ok.0) in
    let ends : c.len-to.result ≡ length (old ++ c.args.fields.now) = omega (arith, c.len-to.ensures, c.extend_from_slice.new.self.ok.0, ap length more) in
    ap (λ fields. map (part_of fields) c.push.new.self.items) more
    ∙ ap (map (part_of (old ++ c.args.fields.now))) c.in_ok-push.ensures.items
    ∙ part-put old c.args.fields.now c.self.inside.parts.items (record { from = c.len-from.result; to = c.len-to.result }) c.self.invariant starts ends
    ∙ ap (λ lists. lists ++ map flat_field c.args.fields.now ∷ []) c.self.view_is
