-- What reading an Instructions document gives: an arena for the nested tree of its chosen set, or the first fault.
use Rattle.std.specs.Prelude.{◌≡◌, ℕ, List, length, Result, Ok, Err, ⊤}
use Rattle.serde_json.specs.Data.{Data}
use Rattle.spec_walk.specs.Limits.{Counts}
use Rattle.spec_instructions.specs.Tree.{Node}
use Rattle.spec_instructions.specs.Shape.{IsSetTree}
use Rattle.spec_instructions.specs.Reading.{tree_read, paths_read, aliases_read}
use Rattle.mrs_arena.specs.Flat.{ArenaParts}
use Rattle.mrs_arena.specs.Limits.{leaf_count, alias_count}
use Rattle.mrs_arena.specs.Placed.{IsTree, AreHeld, paths_of}
use Rattle.mrs_arena.specs.AliasPaths.{aliases_by}
use Rattle.mrs_arena.specs.Release.{IsRelease}
use Rattle.mrs_walk.specs.Faults.{fault_of}
use Rattle.mrs_walk.specs.declared.fault.ReadFault.{ReadFault}
use Rattle.mrs_walk.specs.declared.fault.ReadFault.TheVariants.{Schema, NoMemory}

-- the counts of a walk that put these names and what an arena has
abbrev pub arena_counts : List (List ℕ) → ArenaParts → Counts
arena_counts names a = record { held = names; nodes = length a.nodes; leaves = leaf_count a.nodes; aliases = alias_count a.nodes; expressions = length a.exprs }

-- the walk met no fault and passed no limit, and the nodes are those of the chosen set, the only ones that were counted, as are the expressions
pub record IsArenaOf (isa : List ℕ) (d : Data) (before names : List (List ℕ)) (a : ArenaParts) : Type 0 where
  pub set : Node
  pub walk : tree_read isa before d ≡ Ok (set, arena_counts names a)
  pub shaped : IsSetTree set
  pub tree : IsTree names a.nodes set
  pub held : AreHeld names a.nodes
  pub release : IsRelease names a.nodes
  pub paths : paths_read isa before d ≡ Ok (paths_of names a.nodes)
  pub aliases : aliases_read isa before d ≡ Ok (aliases_by names a.nodes)

-- that, or the first fault, unless memory ran out
abbrev pub ReadsRelease : List ℕ → Data → List (List ℕ) → List (List ℕ) → Result ArenaParts ReadFault → Type 0
ReadsRelease isa d before names (Ok a) = IsArenaOf isa d before names a
ReadsRelease isa d before names (Err (Schema f)) = tree_read isa before d ≡ Err (fault_of f)
ReadsRelease isa d before names (Err NoMemory) = ⊤
