use Rattle.std.proofs.Common.{◌≡◌, ◌∙◌, sym, ap, bytes_eq, is_some, false}
use Rattle.indexmap.proofs.CallerLemmas.{insert_entry-new}
use Rattle.insn_tree.specs.Labels.{with_label, labels_of}
use Rattle.insn_tree.specs.Trees.{number_of}
use Rattle.insn_tree.proofs.LabelLaws.{lookup-labels, labels_of-push, with_label-held, with_label-new, none_from}
use Rattle.insn_tree.proofs.label_table.LabelTable.put.Goals as goal

pub returns-then-contains_key : goal.returns-then-contains_key
returns-then-contains_key c =
    with_label-held c.args.label.items c.args.number c.args.self.now
    (ap (λ labels. is_some (number_of c.args.label.items labels)) (sym c.self.view_is)
    ∙ ap (λ t. is_some (number_of t (labels_of c.self.inside.numbers.entries))) (sym c.as_slice.ensures.value)
    ∙ ap is_some (sym (lookup-labels c.as_slice.result.now c.self.inside.numbers.entries))
    ∙ sym c.contains_key.ensures ∙ c.if-contains_key.true)

pub returns : goal.returns
returns c =
    let text = c.args.label.items in
    let entries = c.self.inside.numbers.entries in
    let free : is_some (number_of text (labels_of entries)) ≡ false =
    ap (λ t. is_some (number_of t (labels_of entries))) (sym c.as_slice.ensures.value) ∙ ap is_some (sym (lookup-labels c.as_slice.result.now entries)) ∙ sym c.contains_key.ensures ∙ c.if-contains_key.false in
    ap labels_of (c.in_ok-insert.ensures.entries ∙ insert_entry-new (λ x y. bytes_eq x.items y.items) c.self.inside.numbers c.args.label c.args.number (lookup-labels text entries ∙ none_from (number_of text (labels_of entries)) free))
    ∙ labels_of-push entries c.args.label c.args.number
    ∙ with_label-new text c.args.number (labels_of entries) free
    ∙ ap (with_label text c.args.number) c.self.view_is
