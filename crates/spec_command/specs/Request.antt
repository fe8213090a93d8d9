-- What the words of a command line ask for: what their command does. Where they say no command, the same place is refused.
use Rattle.std.specs.Prelude.{ℕ, List, length, Result}
use Rattle.spec_command.specs.Commands.{Request}
use Rattle.spec_command.specs.Words.{asked, complete, if_spoken, spoken}

abbrev pub request : List (List ℕ) → Result Request ℕ
request words = if_spoken (λ c. complete (length words) (asked c)) (spoken words)
