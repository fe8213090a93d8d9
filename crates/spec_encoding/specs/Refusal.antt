-- Why fields and a rest are encoded to no word.
use Rattle.std.specs.Prelude.{ℕ, Option, Some, None, Result, Ok, Err}

-- pairs are counted from 0, bits from the lowest, and nodes from the root, which is 0. A missing field is told by its name
pub data Refusal (N : Type 0) : Type 0 where
  UnknownField : (i : ℕ) → Refusal N
  DoubledField : (i : ℕ) → Refusal N
  MissingField : (name : N) → Refusal N
  TooWide : (i : ℕ) → Refusal N
  Clash : (bit : ℕ) → Refusal N
  FixedBit : (bit : ℕ) → Refusal N
  RestBit : (bit : ℕ) → Refusal N
  Excluded : (node : ℕ) → Refusal N

-- what comes next, unless there is a reason to refuse
abbrev pub unless : {N X : Type 0} → Option X → (X → Refusal N) → Result ℕ (Refusal N) → Result ℕ (Refusal N)
unless None why next = next
unless (Some x) why next = Err (why x)

-- a refusal with its node under another number than that of its place along the path
abbrev pub renumbered : {N : Type 0} → (ℕ → ℕ) → Refusal N → Refusal N
renumbered e (UnknownField i) = UnknownField i
renumbered e (DoubledField i) = DoubledField i
renumbered e (MissingField name) = MissingField name
renumbered e (TooWide i) = TooWide i
renumbered e (Clash bit) = Clash bit
renumbered e (FixedBit bit) = FixedBit bit
renumbered e (RestBit bit) = RestBit bit
renumbered e (Excluded node) = Excluded (e node)

-- an answer with the node so
abbrev pub with_node : {N : Type 0} → (ℕ → ℕ) → Result ℕ (Refusal N) → Result ℕ (Refusal N)
with_node e (Ok w) = Ok w
with_node e (Err r) = Err (renumbered e r)
