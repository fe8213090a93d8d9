-- The answers of the code as those of the definition.
use Rattle.std.specs.Prelude.{◌≡◌, ◌<◌, ℕ, List, length, ⊤, Result, Ok, Err}
use Rattle.spec_encoding.specs.Refusal as refusal
use Rattle.spec_encoding.specs.Refusal.{Refusal, renumbered}
use Rattle.spec_lines.specs.LineFault as spec
use Rattle.spec_lines.specs.Way.{Way}
use Rattle.mrs_arena.specs.Placed.{path_to}
use Rattle.insn_tree.specs.Trees.{TreeParts}
use Rattle.insn_encode.specs.declared.fault.EncodeFault.{EncodeFault}
use Rattle.insn_encode.specs.Held.{node_at, refusal_by}
use Rattle.list_words.specs.declared.line_fault.LineFault.{LineFault}
use Rattle.list_words.specs.declared.line_fault.LineWhy.{LineWhy}
use Rattle.list_words.specs.declared.line_fault.LineWhy.TheVariants as why
use Rattle.list_words.specs.Ways.{way_node, path_along}

-- a refusal names a node that is one of so many
abbrev pub IsWithin : ℕ → Refusal (List ℕ) → Type 0
IsWithin count (refusal.UnknownField i) = ⊤
IsWithin count (refusal.DoubledField i) = ⊤
IsWithin count (refusal.MissingField name) = ⊤
IsWithin count (refusal.TooWide i) = ⊤
IsWithin count (refusal.Clash bit) = ⊤
IsWithin count (refusal.FixedBit bit) = ⊤
IsWithin count (refusal.RestBit bit) = ⊤
IsWithin count (refusal.Excluded node) = node < count

-- a refusal of a leaf or an alias, whose path is that to its node: the encoder's names are told by their texts, and the node
-- is that of a place along the path
pub record IsRefusalAt (names : List (List ℕ)) (tree : TreeParts) (code : EncodeFault) (way : Way) (told : Refusal (List ℕ)) : Type 0 where
  pub path : path_along names tree way ≡ path_to names tree.nodes (way_node tree.nodes way)
  pub node : IsWithin (length (path_along names tree way)) told
  pub same : refusal_by names code ≡ renumbered (node_at tree.nodes (way_node tree.nodes way)) told

-- the same for some leaf or alias
pub record IsEncode (names : List (List ℕ)) (tree : TreeParts) (code : EncodeFault) (told : spec.LineWhy) : Type 0 where
  pub way : Way
  pub refusal : Refusal (List ℕ)
  pub is : told ≡ spec.Encode way refusal
  pub refusal_is : IsRefusalAt names tree code way refusal

abbrev pub IsWhy : List (List ℕ) → TreeParts → LineWhy → spec.LineWhy → Type 0
IsWhy names tree why.Long told = told ≡ spec.Long
IsWhy names tree why.Head told = told ≡ spec.Head
IsWhy names tree why.Label told = told ≡ spec.Label
IsWhy names tree why.Pair told = told ≡ spec.Pair
IsWhy names tree why.Many told = told ≡ spec.Many
IsWhy names tree (why.Encode code) told = IsEncode names tree code told

pub record IsFault (names : List (List ℕ)) (tree : TreeParts) (code : LineFault) (told : spec.LineFault) : Type 0 where
  pub at : told.at ≡ code.at
  pub why : IsWhy names tree code.why told.why

-- a refusal of the code is one of the definition
pub record IsRefused {A : Type 0} (names : List (List ℕ)) (tree : TreeParts) (code : LineFault) (told : Result A spec.LineFault) : Type 0 where
  pub fault : spec.LineFault
  pub is : told ≡ Err fault
  pub fault_is : IsFault names tree code fault

-- the word, or the first refusal
abbrev pub Answers : List (List ℕ) → TreeParts → Result ℕ LineFault → Result ℕ spec.LineFault → Type 0
Answers names tree (Ok w) told = told ≡ Ok w
Answers names tree (Err code) told = IsRefused names tree code told
