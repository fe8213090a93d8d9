-- Which leaves a tree of bit tests in flat arrays tells apart.
use Rattle.std.specs.Prelude.{◌≡◌, ◌<◌, ◌≤◌, ◌+◌, ◌*◌, ◌-◌, ℕ, List, ◌++◌, length, slice_get, slice_range, Some, None}
use Rattle.spec_decode.specs.Bucket.{Encoding, next_bit, agreeing, Bucket}
use Rattle.insn_decode.specs.declared.node.Node.{Node}
use Rattle.insn_decode.specs.declared.node.Node.TheVariants.{Leaves, Test}

-- Node k tells these leaves apart: it tests the bit that is looked at next, and the nodes below it, which stand before it,
-- tell apart those on either side; where no bit is looked at, the leaves are a run of the order.
pub data Decides (nodes : List Node) (order : List Encoding) : ℕ → List Encoding → Type 0 where
  run : (k from to : ℕ) (es : List Encoding) → slice_get nodes k ≡ Some (Leaves from to) → next_bit es ≡ None
      → from ≤ to → to ≤ length order → slice_range order from to ≡ es → Decides nodes order k es
  branch : (k i below above : ℕ) (es : List Encoding) → slice_get nodes k ≡ Some (Test i below above) → next_bit es ≡ Some i
      → below < k → above < k → Decides nodes order below (agreeing i 0 es) → Decides nodes order above (agreeing i 1 es) → Decides nodes order k es

-- a run of the order is the word's bucket of these leaves
abbrev pub IsRun : List Encoding → ℕ → ℕ → ℕ → List Encoding → Type 0
IsRun order w from to es = Bucket w (slice_range order from to) es

-- a list with more behind it
abbrev pub Extends : {X : Type 0} → List X → List X → Type 0
Extends {X} before after = (more : List X) × (after ≡ before ++ more)

-- the most nodes that tell so many leaves apart: a bucket for each, and a test between each two; one bucket for none
abbrev pub most_nodes : ℕ → ℕ
most_nodes n = 1 + 2 * (n - 1)
