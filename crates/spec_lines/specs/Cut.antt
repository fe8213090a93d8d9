-- The lines of a stream that is not read further.
use Rattle.std.specs.Prelude.{ℕ, ◌==◌, nat_lt, List, [], ◌∷◌, ◌++◌, length, if◌then◌else◌}
use Rattle.spec_decode.specs.Machine.{Machine}
use Rattle.spec_lines.specs.Parsed.{line_limit}
use Rattle.spec_lines.specs.Assembly.{Assembled, assembled_from}

-- the lines that are ended by LF, each without it, and the bytes behind the last LF, which are those of a line that is left open
pub record Cut : Type 0 where
  pub whole : List (List ℕ)
  pub left : List ℕ

-- a byte before lines and what is left open belongs to the first of them
abbrev pub before_whole : ℕ → List (List ℕ) → List ℕ → Cut
before_whole byte [] left = record { whole = []; left = byte ∷ left }
before_whole byte (line ∷ lines) left = record { whole = (byte ∷ line) ∷ lines; left = left }

abbrev pub cut : List ℕ → Cut
cut [] = record { whole = []; left = [] }
cut (byte ∷ bytes) = if byte == 10 then record { whole = [] ∷ (cut bytes).whole; left = (cut bytes).left } else before_whole byte (cut bytes).whole (cut bytes).left

-- a line that is left open is judged where it is already too long, however it may go on
abbrev pub judged_open : List ℕ → List (List ℕ)
judged_open left = if nat_lt line_limit (length left) then left ∷ [] else []

-- what the lines that are ended, and an open one that is too long, are assembled to
abbrev pub assembled_cut : Machine → Cut → Assembled
assembled_cut machine c = assembled_from 1 machine (c.whole ++ judged_open c.left)
