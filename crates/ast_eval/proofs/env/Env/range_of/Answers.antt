use Rattle.std.proofs.Common.{◌∙◌, sym, ap, option_map}
use Rattle.ast_eval.specs.Fields.{last_named, bounds_of}
use Rattle.ast_eval.specs.EnvView.{items_at}
use Rattle.ast_eval.proofs.SameLaws.{last-field}
use Rattle.ast_eval.proofs.env.Env.range_of.Goals as goal

pub returns-in-Some-clause-named : goal.returns-in-Some-clause-named
returns-in-Some-clause-named c names distinct held fields =
    let name = c.args.name.0 in
    c.range_at.ensures
    ∙ ap (λ place. option_map bounds_of (last_named name (items_at place))) (sym c.in-Some.is)
    ∙ ap (λ items. option_map bounds_of (last_named name items)) c.self.view_is
    ∙ last-field names distinct name held c.args.self.now fields
