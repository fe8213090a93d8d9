-- What the lines of a stream are assembled to. A64 words have 32 bits and are held little-endian (Arm Architecture Reference
-- Manual, DDI 0487).
use Rattle.std.specs.Prelude.{ℕ, ◌+◌, ◌==◌, List, [], ◌∷◌, ◌++◌, Option, Some, None, Result, Ok, Err, if◌then◌else◌}
use Rattle.std.specs.Int.{w32, to_le_bytes}
use Rattle.spec_decode.specs.Machine.{Machine}
use Rattle.spec_lines.specs.LineFault.{LineFault}
use Rattle.spec_lines.specs.Parsed.{parsed}

-- a byte before lines belongs to the first of them
abbrev pub before_lines : ℕ → List (List ℕ) → List (List ℕ)
before_lines byte [] = (byte ∷ []) ∷ []
before_lines byte (line ∷ lines) = (byte ∷ line) ∷ lines

-- the lines of a stream, each without the LF that ends it, which the last may lack
abbrev pub lines_in : List ℕ → List (List ℕ)
lines_in [] = []
lines_in (byte ∷ bytes) = if byte == 10 then [] ∷ lines_in bytes else before_lines byte (lines_in bytes)

-- a line that is refused: its number, from 1, and why
pub record BadLine : Type 0 where
  pub number : ℕ
  pub fault : LineFault

-- the words before the first line that is refused, as bytes, and that line
pub record Assembled : Type 0 where
  pub bytes : List ℕ
  pub refused : Option BadLine

-- a line before others: what it says, by its number
abbrev pub before_assembled : ℕ → Result ℕ LineFault → Assembled → Assembled
before_assembled number (Ok w) later = record { bytes = to_le_bytes w32 w ++ later.bytes; refused = later.refused }
before_assembled number (Err fault) later = record { bytes = []; refused = Some (record { number = number; fault = fault }) }

-- lines, the first of which has that number. An empty line is passed over, but has a number
abbrev pub assembled_from : ℕ → Machine → List (List ℕ) → Assembled
assembled_from number machine [] = record { bytes = []; refused = None }
assembled_from number machine ([] ∷ lines) = assembled_from (number + 1) machine lines
assembled_from number machine ((byte ∷ line) ∷ lines) = before_assembled number (parsed machine (byte ∷ line)) (assembled_from (number + 1) machine lines)

-- the lines of a stream
abbrev pub assembled : Machine → List ℕ → Assembled
assembled machine stream = assembled_from 1 machine (lines_in stream)
