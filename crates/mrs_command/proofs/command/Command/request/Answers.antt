use Rattle.std.proofs.Common.{ap, sym, ◌∙◌, option_map}
use Rattle.mrs_command.specs.Commands.{asked_of}
use Rattle.mrs_command.proofs.Few.{few_pins}
use Rattle.mrs_command.proofs.command.Command.request.Goals as goal

pub returns-clause-few : goal.returns-clause-few
returns-clause-few c = few_pins (c.self.inside.verb, c.self.inside.pairs) c.in-Some.request c.self.invariant (sym c.request.ensures.asked ∙ ap (option_map asked_of) c.in-Some.is)
