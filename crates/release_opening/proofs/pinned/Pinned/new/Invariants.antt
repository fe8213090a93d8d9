use Rattle.std.proofs.Common.{◌≡◌, ℕ, Bool, List, [], map}
use Rattle.mrs_names.proofs.DistinctLaws.{behind}
use Rattle.spec_command.specs.Pins.{Pin}
use Rattle.release_opening.proofs.PinLaws.{ReadPins}
use Rattle.release_opening.proofs.pinned.Pinned.new.Given as goal

pub record Step (names : List (List ℕ)) (pins : List (ℕ × Bool)) (left asked : List Pin) : Type 0 where
  -- with what is new of the words that are left, the names are those of all
  pub names_are : behind names (map (λ (pin : Pin). pin.0) left) ≡ behind [] (map (λ (pin : Pin). pin.0) asked)
  pub pins_are : ReadPins names pins left asked

abbrev pub invariant-loop-pin : goal.invariant-loop-pin
invariant-loop-pin l = Step l.names l.pins.items l.pin-iterator l.fn.list
