-- The reason why a line is refused, by the numbers of names and nodes.
use Rattle.std.specs.Prelude.{ℕ, List, ◌++◌, codes, decimal}
use Rattle.mrs_arena.specs.Flat.{FlatNode}
use Rattle.mrs_arena.specs.Placed.{text_of, own_at}
use Rattle.insn_encode.specs.declared.fault.EncodeFault.{EncodeFault}
use Rattle.insn_encode.specs.declared.fault.EncodeFault.TheVariants as fault
use Rattle.list_words.specs.declared.line_fault.LineWhy.{LineWhy}
use Rattle.list_words.specs.declared.line_fault.LineWhy.TheVariants as why

abbrev pub node_name : List (List ℕ) → List FlatNode → ℕ → List ℕ
node_name names nodes n = (own_at names nodes n).name

abbrev pub refusal_told : List (List ℕ) → List FlatNode → EncodeFault → List ℕ
refusal_told names nodes (fault.UnknownField i) = codes "unknown " ++ decimal i
refusal_told names nodes (fault.DoubledField i) = codes "doubled " ++ decimal i
refusal_told names nodes (fault.MissingField name) = codes "missing " ++ text_of names name.0
refusal_told names nodes (fault.TooWide i) = codes "wide " ++ decimal i
refusal_told names nodes (fault.Clash bit) = codes "clash " ++ decimal bit
refusal_told names nodes (fault.FixedBit bit) = codes "fixed " ++ decimal bit
refusal_told names nodes (fault.RestBit bit) = codes "restbit " ++ decimal bit
refusal_told names nodes (fault.Excluded node) = codes "excluded " ++ node_name names nodes node.0

abbrev pub reason_told : List (List ℕ) → List FlatNode → LineWhy → List ℕ
reason_told names nodes why.Long = codes "long"
reason_told names nodes why.Head = codes "head"
reason_told names nodes why.Label = codes "label"
reason_told names nodes why.Pair = codes "pair"
reason_told names nodes why.Many = codes "many"
reason_told names nodes (why.Encode refusal) = refusal_told names nodes refusal
