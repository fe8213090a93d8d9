use Rattle.std.proofs.Common.{◌∙◌, sym, ap, option_map, string_bytes, Some}
use Rattle.std.proofs.lemmas.Option.{slice_get-map}
use Rattle.mrs_names.specs.Texts.{place_of}
use Rattle.mrs_names.proofs.names.Names.text.Goals as goal

pub returns-clause-place : goal.returns-clause-place
returns-clause-place c =
    let stands = slice_get-map string_bytes c.self.inside.texts.keys c.args.id.0 ∙ ap (option_map string_bytes) (sym c.in-Some.ensures.key) ∙ ap Some (sym c.as_str.ensures.value) in
    ap (λ names. place_of c.as_str.result.now names) (sym c.self.view_is) ∙ c.self.invariant.distinct c.args.id.0 c.as_str.result.now stands
