use Rattle.std.proofs.Common.{◌≡◌, drop}
use Rattle.std.specs.Option.{option_and_then}
use Rattle.spec_command.specs.Number.{if_below, number_behind}
use Rattle.number_text.proofs.digits.digits_below.Given as goal

-- what is left gives what the whole gives
abbrev pub invariant-loop-byte : goal.invariant-loop-byte
invariant-loop-byte l = option_and_then (if_below l.bound) (number_behind l.base l.number (drop l.byte-index l.text)) ≡ option_and_then (if_below l.bound) (number_behind l.base 0 l.text)
