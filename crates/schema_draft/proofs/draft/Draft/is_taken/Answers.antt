use Rattle.std.proofs.Common.{◌∙◌, sym, ap, bytes_eq}
use Rattle.std.specs.List.{list_any}
use Rattle.schema_draft.specs.Drafted.{last_items}
use Rattle.spec_instructions.specs.Encodeset.{names_of}
use Rattle.schema_draft.proofs.DraftLaws.{has_number-last, has_no_number-last}
use Rattle.schema_draft.proofs.draft.Draft.is_taken.Goals as goal

pub returns-in-Some : goal.returns-in-Some
returns-in-Some c =
    let text = c.args.text.now in
    c.is_taken.ensures
    ∙ sym (has_number-last text c.self.inside.names c.self.inside.builder.nodes c.in-Some.name.0 c.len-count.ensures.names c.self.invariant.nodes (sym c.in-Some.ensures))
    ∙ ap (λ d. list_any (bytes_eq text) (names_of (last_items d.nodes))) c.self.view_is

pub returns-in-None : goal.returns-in-None
returns-in-None c =
    let text = c.args.text.now in
    sym (has_no_number-last text c.self.inside.names c.self.inside.builder.nodes c.len-count.ensures.names c.self.invariant.nodes (sym c.in-None.ensures))
    ∙ ap (λ d. list_any (bytes_eq text) (names_of (last_items d.nodes))) c.self.view_is
