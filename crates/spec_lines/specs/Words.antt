-- The words of a stream of bytes. A64 words have 32 bits and are held little-endian (Arm Architecture Reference Manual, DDI 0487).
use Rattle.std.specs.Prelude.{ℕ, List, [], ◌∷◌}
use Rattle.std.specs.Int.{w32, from_le_bytes}

-- the whole words of a stream
abbrev pub words_in : List ℕ → List ℕ
words_in (a ∷ b ∷ c ∷ d ∷ bytes) = from_le_bytes w32 (a ∷ b ∷ c ∷ d ∷ []) ∷ words_in bytes
words_in rest = []

-- the bytes behind them, where the stream ends inside a word
abbrev pub rest_in : List ℕ → List ℕ
rest_in (a ∷ b ∷ c ∷ d ∷ bytes) = rest_in bytes
rest_in rest = rest
