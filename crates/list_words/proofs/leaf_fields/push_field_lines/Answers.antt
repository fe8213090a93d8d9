use Rattle.std.proofs.Common.{◌≡◌, ◌∙◌, sym, ap, subst, ◌++◌, ◌<◌, drop, flat_map, ℕ, List, [], append-nil, arith}
use Rattle.std.proofs.lemmas.List.{length-map}
use Rattle.std.proofs.Math.ListN.{drop_of_length-le}
use Rattle.mrs_arena.specs.Placed.{path_to, leaves_of}
use Rattle.insn_tree.specs.declared.field_range.FieldRange.{FieldRange}
use Rattle.list_words.proofs.FieldLaws.{line_at, all-lines}
use Rattle.list_words.proofs.leaf_fields.push_field_lines.Goals as goal

pub returns : goal.returns
returns c =
    let names = c.args.names.now in
    let nodes = c.args.tree.now.nodes in
    let own = c.requires.names in
    let all = c.fields-fields.result.now in
    let line = line_at names c.layout-layout.result in
    let below = subst (λ n. c.args.leaf.0 < n) (length-map (leaves_of nodes) (path_to names nodes)) c.requires.leaf in
    let none : drop c.loop-field.field-index all ≡ [] = drop_of_length-le all {i = c.loop-field.field-index} (omega (arith, c.loop-field-test.false)) in
    sym (append-nil c.loop-field.out.items)
    ∙ ap (λ (fs : List FieldRange). c.loop-field.out.items ++ flat_map line fs) (sym none)
    ∙ c.loop-field.invariant
    ∙ ap (λ (ts : List ℕ). c.args.out.now.items ++ ts) (all-lines names nodes c.args.leaf.0 below c.layout-layout.result (c.layout-layout.ensures.numbers names own.names_are own.held) all (c.fields-fields.ensures.visible names own.names_are own.held) c.fields-fields.ensures.within)
