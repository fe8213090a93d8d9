-- Pairs and answers by the texts of names and the numbers of nodes.
use Rattle.std.specs.Prelude.{ℕ, List, reverse, slice_index_or, Result, Ok, Err}
use Rattle.spec_encoding.specs.Refusal.{Refusal, UnknownField, DoubledField, MissingField, TooWide, Clash, FixedBit, RestBit, Excluded}
use Rattle.mrs_names.specs.declared.name_id.NameId.{NameId}
use Rattle.mrs_arena.specs.Flat.{FlatNode}
use Rattle.mrs_arena.specs.Paths.{ancestors}
use Rattle.mrs_arena.specs.Nodes.{parents_of}
use Rattle.mrs_arena.specs.Placed.{text_of, leaves_of, aliases_of}
use Rattle.insn_encode.specs.declared.fault.EncodeFault.{EncodeFault}
use Rattle.insn_encode.specs.declared.fault.EncodeFault.TheVariants as fault

-- a pair with the text of its name
abbrev pub pair_by : List (List ℕ) → NameId × ℕ → List ℕ × ℕ
pair_by names pair = (text_of names pair.0.0, pair.1)

-- a refusal with the text of its name, and the number of its node
abbrev pub refusal_by : List (List ℕ) → EncodeFault → Refusal (List ℕ)
refusal_by names (fault.UnknownField i) = UnknownField i
refusal_by names (fault.DoubledField i) = DoubledField i
refusal_by names (fault.MissingField name) = MissingField (text_of names name.0)
refusal_by names (fault.TooWide i) = TooWide i
refusal_by names (fault.Clash bit) = Clash bit
refusal_by names (fault.FixedBit bit) = FixedBit bit
refusal_by names (fault.RestBit bit) = RestBit bit
refusal_by names (fault.Excluded node) = Excluded node.0

abbrev pub answer_by : List (List ℕ) → Result ℕ EncodeFault → Result ℕ (Refusal (List ℕ))
answer_by names (Ok w) = Ok w
answer_by names (Err why) = Err (refusal_by names why)

-- the number of the node at place k from the root of those on the path to node n
abbrev pub node_at : List FlatNode → ℕ → ℕ → ℕ
node_at nodes n k = slice_index_or (reverse (ancestors (parents_of nodes) n)) k 0

-- the same of those on the path to leaf l
abbrev pub leaf_node_at : List FlatNode → ℕ → ℕ → ℕ
leaf_node_at nodes l k = node_at nodes (slice_index_or (leaves_of nodes) l 0) k

-- and of those on the path of alias a
abbrev pub alias_node_at : List FlatNode → ℕ → ℕ → ℕ
alias_node_at nodes a k = node_at nodes (slice_index_or (aliases_of nodes) a 0) k
