-- The gaps of a fieldset: the longest runs of bits that are not covered.
use Rattle.std.specs.Prelude.{◌≡◌, ◌<◌, ◌≤◌, ℕ, ◌+◌, ◌-◌, ◌==◌, Bool, not, ◌&&◌, ◌||◌, nat_le, nat_lt, List, [], ◌∷◌, length, map, filter, reverse, take_while, ⊤}
use Rattle.std.specs.List.{list_any, range_with_len, AllByRecursion}
use Rattle.spec_instructions.specs.Encodeset.{Range}

-- bit i is one of the `width` bits from bit `start` up
abbrev pub covers : ℕ → ℕ → ℕ → Bool
covers start width i = nat_le start i && nat_lt i (start + width)

-- bit i is covered by one of some ranges
abbrev pub is_covered : List Range → ℕ → Bool
is_covered ranges i = list_any (λ r. covers r.start r.width i) ranges

-- ---- gaps, where `covered` says of each bit whether it is

abbrev pub is_gap : (ℕ → Bool) → ℕ → Bool
is_gap covered i = not (covered i)

-- a gap begins at a bit that is not covered and that has no such bit directly below it
abbrev pub begins_gap : (ℕ → Bool) → ℕ → Bool
begins_gap covered i = is_gap covered i && (i == 0 || covered (i - 1))

-- it goes on as long as no bit is covered, up to the end of the fieldset
abbrev pub gap_from : ℕ → (ℕ → Bool) → ℕ → Range
gap_from bits covered i = record { start = i; width = length (take_while (is_gap covered) (range_with_len i (bits - i))) }

-- the gaps that begin below a bit, the highest first
abbrev pub gaps_below : ℕ → (ℕ → Bool) → ℕ → List Range
gaps_below bits covered n = map (gap_from bits covered) (reverse (filter (begins_gap covered) (range_with_len 0 n)))

-- the gaps among so many bits
abbrev pub gaps : ℕ → (ℕ → Bool) → List Range
gaps bits covered = gaps_below bits covered bits

-- ---- what this comes to

-- each lies below the one before it, with a bit between them
abbrev pub AreApart : List Range → Type 0
AreApart [] = ⊤
AreApart (upper ∷ rest) = AllByRecursion (λ lower. lower.start + lower.width < upper.start) rest × AreApart rest

-- a range has bits, among so many
pub record IsWithin (bits : ℕ) (r : Range) : Type 0 where
  pub some : 1 ≤ r.width
  pub fits : r.start + r.width ≤ bits

-- a bit of the fieldset stands in a gap exactly where it is not covered. Gaps are not empty, end within the fieldset, and do
-- not touch
pub record AreGaps (bits : ℕ) (covered : ℕ → Bool) (found : List Range) : Type 0 where
  pub exact : (i : ℕ) → i < bits → is_covered found i ≡ is_gap covered i
  pub within : AllByRecursion (IsWithin bits) found
  pub apart : AreApart found

abbrev pub GapsAreExact : Type 0
GapsAreExact = (bits : ℕ) (covered : ℕ → Bool) → AreGaps bits covered (gaps bits covered)
