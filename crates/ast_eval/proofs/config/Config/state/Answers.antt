use Rattle.std.proofs.Common.{◌∙◌, ap, option_map}
use Rattle.std.specs.Prelude.{option_and_then}
use Rattle.ast_eval.specs.Choices.{flag, flag_in}
use Rattle.ast_eval.specs.ConfigView.{state_told}
use Rattle.ast_eval.proofs.ChoiceLaws.{lookup-state}
use Rattle.ast_eval.proofs.config.Config.state.Goals as goal

pub returns-in-Some : goal.returns-in-Some
returns-in-Some c =
    c.flag.ensures ∙ ap (λ o. option_and_then flag (option_map state_told o)) c.in-Some.ensures.value
    ∙ ap (option_and_then flag) (lookup-state c.args.name c.self.inside.states.entries) ∙ ap (flag_in c.args.name.0) c.self.view_is

pub returns-in-None : goal.returns-in-None
returns-in-None c =
    ap (λ o. option_and_then flag (option_map state_told o)) c.in-None.ensures.value
    ∙ ap (option_and_then flag) (lookup-state c.args.name c.self.inside.states.entries) ∙ ap (flag_in c.args.name.0) c.self.view_is
