-- The word that is made of parts and a rest, or the first reason why there is none.
use Rattle.std.specs.Prelude.{ℕ, List, Option, Some, None, Result, Ok, if◌then◌else◌}
use Rattle.std.specs.List.{position_from}
use Rattle.spec_encoding.specs.Parts.{Part, some_gives, is_too_wide, is_clash, highest, number_of_bits}
use Rattle.spec_encoding.specs.Layout.{Layout, flipped, is_misfixed, is_stray}
use Rattle.spec_encoding.specs.Refusal.{Refusal, TooWide, Clash, FixedBit, RestBit, Excluded, unless}

-- a bit that no part gives is what it is fixed to, and else as the rest has it
abbrev pub not_given : Layout → ℕ → ℕ → Option ℕ → ℕ
not_given l rest i None = flipped l rest i
not_given l rest i (Some b) = b

-- a bit of the word that is made
abbrev pub made_bit : Layout → List Part → ℕ → ℕ → ℕ
made_bit l ps rest i = if some_gives ps i 1 then 1 else (if some_gives ps i 0 then 0 else not_given l rest i (l.fixed i))

abbrev pub made : Layout → List Part → ℕ → ℕ
made l ps rest = number_of_bits (made_bit l ps rest) 32

-- the word, or the first refusal that is not about names: the first value that does not fit; the highest bit that is given
-- two values, the highest that is given another value than it is fixed to, and the highest of the rest that is not free; and
-- what excludes the word that is made
abbrev pub placed : {N : Type 0} → Layout → (ℕ → Option ℕ) → List Part → ℕ → Result ℕ (Refusal N)
placed l excluded ps rest =
    unless (position_from is_too_wide 0 ps) TooWide
    (unless (highest (is_clash ps) 32) Clash
    (unless (highest (is_misfixed l ps) 32) FixedBit
    (unless (highest (is_stray l rest) 32) RestBit
    (unless (excluded (made l ps rest)) Excluded
    (Ok (made l ps rest))))))
