-- The kinds of objects that make up the tree of instructions, and where each may stand.
use Rattle.std.specs.Prelude.{ℕ, List, [], ◌∷◌, Option, codes, bytes_eq, find}

-- a set of instructions, a group of nodes, a leaf, which is one instruction, an alias of a leaf, and an instance, which is passed over
pub data Kind : Type 0 where
  Set : Kind
  Group : Kind
  Leaf : Kind
  Alias : Kind
  Instance : Kind

-- the text of `_type`
abbrev pub kind_text : Kind → List ℕ
kind_text Set = codes "Instruction.InstructionSet"
kind_text Group = codes "Instruction.InstructionGroup"
kind_text Leaf = codes "Instruction.Instruction"
kind_text Alias = codes "Instruction.InstructionAlias"
kind_text Instance = codes "Instruction.InstructionInstance"

-- the kinds that may stand in the `children` of an object of a kind
abbrev pub kinds_in : Kind → List Kind
kinds_in Set = Group ∷ Leaf ∷ Instance ∷ []
kinds_in Group = Group ∷ Leaf ∷ Instance ∷ []
kinds_in Leaf = Alias ∷ Instance ∷ []
kinds_in Alias = []
kinds_in Instance = []

-- the one of these kinds that a text names
abbrev pub kind_named : List Kind → List ℕ → Option Kind
kind_named kinds text = find (λ k. bytes_eq (kind_text k) text) kinds
