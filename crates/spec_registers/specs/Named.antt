-- The registers of a name.
use Rattle.std.specs.Prelude.{ℕ, List, map, filter, bytes_eq}
use Rattle.std.specs.List.{enumerate_from}
use Rattle.spec_registers.specs.Registers.{Register}

-- the numbers of those registers that have the name, in document order. Register number k is the k-th, from 0
abbrev pub named_in : List ℕ → List Register → List ℕ
named_in name registers = map (λ p. p.0) (filter (λ p. bytes_eq p.1.name name) (enumerate_from 0 registers))
