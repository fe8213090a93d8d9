use Rattle.std.proofs.Common.{◌∙◌, sym, ap}
use Rattle.std.specs.List.{list_any}
use Rattle.schema_draft.proofs.TakenLaws.{is_number}
use Rattle.features_reader.proofs.ParamReadLaws.{taken_by_number, none_taken}
use Rattle.features_reader.proofs.params.is_doubled.Goals as goal

pub returns-in-Some : goal.returns-in-Some
returns-in-Some c =
    let params = c.args.params.now in
    let names = c.args.draft.now.names in
    c.is_named.ensures
    ∙ ap (λ o. list_any (λ param. is_number o param.name.0) params) c.in-Some.ensures.place
    ∙ sym (taken_by_number c.args.text.now names params c.in-Some.ensures.names.distinct c.requires)

pub returns-in-None : goal.returns-in-None
returns-in-None c =
    let params = c.args.params.now in
    let names = c.args.draft.now.names in
    sym (taken_by_number c.args.text.now names params c.in-None.ensures.names.distinct c.requires ∙ ap (λ o. list_any (λ param. is_number o param.name.0) params) (sym c.in-None.ensures.place) ∙ none_taken params)
