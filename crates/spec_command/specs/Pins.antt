-- Pins: settings that say of a feature that it is to be on, or off. The rules are this project's own.
use Rattle.std.specs.Prelude.{ℕ, Bool, true, false, List, [], ◌∷◌, Option, Some, None, codes, bytes_eq, filter_map, if◌then◌else◌}
use Rattle.spec_command.specs.Ask.{Ask}

-- the name of a feature, and whether it is to be on
abbrev pub Pin : Type 0
Pin = List ℕ × Bool

-- `on=NAME` pins a feature on, and `off=NAME` pins it off
abbrev pub pin_in : List ℕ × List ℕ → Option Pin
pin_in setting =
    if bytes_eq (codes "on") setting.0 then Some (setting.1, true)
    else (if bytes_eq (codes "off") setting.0 then Some (setting.1, false) else None)

-- the pins among settings, in their order
abbrev pub pins_in : List (List ℕ × List ℕ) → List Pin
pins_in settings = filter_map pin_in settings

-- the keys of pins. Several words may have such a key
abbrev pub pin_keys : List (List ℕ)
pin_keys = codes "on" ∷ codes "off" ∷ []

-- several settings may be pins, at most 4,096 (`pin_limit`): they are asked for together, in the order of the words
abbrev pub pins : Ask (List Pin)
pins = record { keys = pin_keys; value = λ settings. Some (pins_in settings) }
