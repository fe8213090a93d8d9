use Rattle.std.proofs.Common.{◌∙◌, sym, ap, map, get_or, cond, false, Some, None, bytes_eq}
use Rattle.std.specs.Prelude.{find}
use Rattle.std.specs.Option.{option_or}
use Rattle.std.specs.List.{range_with_len}
use Rattle.std.proofs.Math.ListN.{get_or-map}
use Rattle.mrs_names.specs.declared.name_id.NameId.{NameId}
use Rattle.insn_tree.specs.Trees.{number_of}
use Rattle.insn_tree.specs.Labels.{has_flat_label, flat_label}
use Rattle.insn_tree.proofs.LabelLaws.{number_of-put, bytes_eq-turn}
use Rattle.insn_tree.proofs.RangeLaws.{find_more}
use Rattle.insn_tree.proofs.labels.find_labels.Goals as goal

pub loop-k-preserved : goal.loop-k-preserved
loop-k-preserved c text =
    let k = c.loop-k.k in
    let label = c.in_ok-printed.field-0.items in
    let is = c.in_ok-printed.ensures ∙ c.label_of-label.ensures.text
    ∙ ap (λ id. flat_label c.args.names.now id (get_or c.args.shared.now k false) k) (sym (get_or-map (λ (name : NameId). name.0) c.args.path_names.now k (record { 0 = 0 }))) in
    let test = has_flat_label c.args.names.now (map (λ (name : NameId). name.0) c.args.path_names.now) c.args.shared.now text in
    ap (number_of text) c.in_ok-put.ensures
    ∙ number_of-put text label k c.loop-k.labels
    ∙ ap (λ o. option_or o (cond (bytes_eq text label) (Some k) None)) (c.loop-k.invariant text)
    ∙ ap (λ b. option_or (find test (range_with_len 0 k)) (cond b (Some k) None)) (bytes_eq-turn text label ∙ ap (λ t. bytes_eq t text) is)
    ∙ sym (find_more test k)
