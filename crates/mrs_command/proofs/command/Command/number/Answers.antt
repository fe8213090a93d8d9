use Rattle.std.proofs.Common.{ℕ, sym, ◌∙◌, subst}
use Rattle.std.proofs.lemmas.Iterator.Adapters.{option_map_id}
use Rattle.spec_command.specs.Words.{IsNumber}
use Rattle.spec_command.proofs.CommandLaws.{command_is, number_is}
use Rattle.mrs_command.specs.Commands.{command_of}
use Rattle.mrs_command.proofs.command.Command.number.Goals as goal

pub returns : goal.returns
returns c =
    let said = c.self.invariant in
    let read = sym (option_map_id {A = ℕ} c.number_by.result) ∙ c.number_by.ensures in
    subst (λ s. IsNumber c.args.key.now s.1 c.number_by.result) c.self.view_is
    (number_is said.0 (command_of (c.self.inside.verb, c.self.inside.pairs)) c.args.key.now c.in_ok-value.value.now c.number_by.result (command_is said.0 _ said.1).said c.requires (sym c.in_ok-value.ensures) read)
