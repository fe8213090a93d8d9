-- What an Instructions document gives: the tree of the chosen set, the paths to its leaves and its aliases, or its first fault.
use Rattle.std.specs.Prelude.{◌≡◌, ℕ, List, [], Result, Ok}
use Rattle.serde_json.specs.Data.{Data}
use Rattle.spec_walk.specs.Event.{Fault}
use Rattle.spec_walk.specs.Limits.{Counts, from_held, ◌>>=◌, judged}
use Rattle.spec_walk.specs.Walk.{events}
use Rattle.spec_walk.specs.FirstFault.{answers}
use Rattle.spec_walk.specs.Spot.{root}
use Rattle.spec_instructions.specs.Tree.{Own, Node}
use Rattle.spec_instructions.specs.Walk.{instructions}
use Rattle.spec_instructions.specs.Shape.{IsSetTree}
use Rattle.spec_instructions.specs.Paths.{paths_from}
use Rattle.spec_instructions.specs.Aliases.{AliasPath, aliases_in}

-- the tree of the set of that name with what is held and counted by then, or the first fault; `held` are the texts that have a number before it
abbrev pub tree_read : List ℕ → List (List ℕ) → Data → Result (Node × Counts) Fault
tree_read isa held d = answers (instructions isa (root d)) (from_held held)

-- the paths to the leaves of that tree, leaf number k being the k-th, from 0
abbrev pub paths_read : List ℕ → List (List ℕ) → Data → Result (List (List Own)) Fault
paths_read isa held d = tree_read isa held d >>= λ read. Ok (paths_from [] read.0)

-- the aliases of that tree, alias number a being the a-th, from 0
abbrev pub aliases_read : List ℕ → List (List ℕ) → Data → Result (List AliasPath) Fault
aliases_read isa held d = tree_read isa held d >>= λ read. Ok (aliases_in read.0)

-- ---- what this comes to

-- the events of the walk, judged one after the other, end in the same counts or the same first fault
abbrev pub FirstFaultDecides : Type 0
FirstFaultDecides = (isa : List ℕ) (held : List (List ℕ)) (d : Data) → judged (events (instructions isa (root d))) (from_held held) ≡ (tree_read isa held d >>= λ read. Ok read.1)

-- the root of the tree is a set and no other node is one, below each node stand only nodes that may, names are names, and each item lies within the word, with a mark for each digit
abbrev pub TreesAreSound : Type 0
TreesAreSound = (isa : List ℕ) (held : List (List ℕ)) (d : Data) (tree : Node) (counts : Counts) → tree_read isa held d ≡ Ok (tree, counts) → IsSetTree tree
