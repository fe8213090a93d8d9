-- Pins by the numbers of their names.
use Rattle.std.specs.Prelude.{◌≡◌, ◌<◌, ℕ, List, length}
use Rattle.std.specs.List.{AllByRecursion}
use Rattle.spec_features.specs.Fits.{PinOf}
use Rattle.spec_command.specs.Pins.{Pin}
use Rattle.spec_run.specs.Opening.{pinned}
use Rattle.feat_model.specs.Named.{pins_in}
use Rattle.release_opening.specs.declared.pinned.Pinned.{Pinned}

-- by these names the pins are those of the words, and the names of pins are held
pub record ArePins (names : List (List ℕ)) (pins : List (PinOf ℕ)) (asked : List Pin) : Type 0 where
  pub are : pins_in names pins ≡ asked
  pub held : AllByRecursion (λ (pin : PinOf ℕ). pin.0 < length names) pins
  pub count : length pins ≡ length asked

-- just the names of pins are held, each once
pub record ArePinned (asked : List Pin) (p : Pinned) : Type 0 where
  pub names_are : p.names ≡ pinned asked
  pub pins_are : ArePins p.names p.pins.items asked
