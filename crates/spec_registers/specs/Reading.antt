-- What a Registers document gives: its registers, or its first fault.
use Rattle.std.specs.Prelude.{◌≡◌, ℕ, List, Result, Ok}
use Rattle.serde_json.specs.Data.{Data}
use Rattle.spec_walk.specs.Event.{Fault}
use Rattle.spec_walk.specs.Limits.{Counts, from_held, judged, ◌>>=◌}
use Rattle.spec_walk.specs.Walk.{events}
use Rattle.spec_walk.specs.FirstFault.{answers}
use Rattle.spec_walk.specs.Spot.{root}
use Rattle.spec_registers.specs.Registers.{Registers}
use Rattle.spec_registers.specs.Walk.{registers}

-- with the counts behind the walk; `held` are the texts that have a number before it
abbrev pub registers_read : List (List ℕ) → Data → Result (Registers × Counts) Fault
registers_read held d = answers (registers (root d)) (from_held held)

-- the events of the walk, judged one after the other, end in the same counts or the same first fault
abbrev pub FirstFaultDecides : Type 0
FirstFaultDecides = (held : List (List ℕ)) (d : Data) → judged (events (registers (root d))) (from_held held) ≡ (registers_read held d >>= λ read. Ok read.1)
