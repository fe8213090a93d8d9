use Rattle.std.proofs.Common.{◌∙◌, ap, zip, option_map, slice_get}
use Rattle.ast_eval.specs.ConfigView.{state_told}
use Rattle.ast_eval.proofs.ChoiceLaws.{Entry, entry_at}
use Rattle.ast_eval.proofs.config.Config.parameter.Goals as goal

pub returns-in-Some : goal.returns-in-Some
returns-in-Some c =
    ap (option_map (λ (e : Entry). (e.0.0, state_told e.1))) c.in-Some.ensures.entry ∙ entry_at c.self.inside.states.entries c.self.inside.atoms.items c.args.k
    ∙ ap (λ chosen. slice_get (zip chosen.names chosen.states) c.args.k) c.self.view_is

pub returns-in-None : goal.returns-in-None
returns-in-None c =
    ap (option_map (λ (e : Entry). (e.0.0, state_told e.1))) c.in-None.ensures.entry ∙ entry_at c.self.inside.states.entries c.self.inside.atoms.items c.args.k
    ∙ ap (λ chosen. slice_get (zip chosen.names chosen.states) c.args.k) c.self.view_is
