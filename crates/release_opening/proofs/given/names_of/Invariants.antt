use Rattle.std.proofs.Common.{◌≡◌, ℕ, ◌++◌, map, drop}
use Rattle.spec_features.specs.Fits.{PinOf}
use Rattle.release_opening.proofs.given.names_of.Given as goal

-- with those of the pins that are left, they are those of all
abbrev pub invariant-loop-pin : goal.invariant-loop-pin
invariant-loop-pin l = map (λ id. id.0) l.list.items ++ map (λ (pin : PinOf ℕ). pin.0) (drop l.pin-index l.pins) ≡ map (λ (pin : PinOf ℕ). pin.0) l.fn.pins
