-- Hexadecimal numbers of a least width, in lower case.
use Rattle.std.specs.Prelude.{ℕ, ◌-◌, List, ◌++◌, length, replicate, false}
use Rattle.std.specs.Fmt.{digits}

-- at least `width` digits, with zeros in front
abbrev pub hex : ℕ → ℕ → List ℕ
hex width n = replicate (width - length (digits 16 false n)) 48 ++ digits 16 false n
