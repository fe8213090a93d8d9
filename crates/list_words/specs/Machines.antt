-- The machine that a tree stands for, with a configuration, by the texts of names.
use Rattle.std.specs.Prelude.{◌<◌, ℕ, List, length, All}
use Rattle.spec_decode.specs.Machine.{Machine}
use Rattle.mrs_arena.specs.Placed.{text_of}
use Rattle.ast_eval.specs.Choices.{Choices, configuration_of}
use Rattle.insn_tree.specs.Trees.{TreeParts, IsOf, tree_paths, tree_aliases}
use Rattle.insn_decode.specs.Deciders.{DeciderParts, IsDeciderOf}

abbrev pub machine_of : List (List ℕ) → TreeParts → Choices → Machine
machine_of names tree config = record { paths = tree_paths names tree; aliases = tree_aliases names tree; configuration = configuration_of (text_of names) config }

-- the tree was made with these names, the decider from the tree, and the names of the configuration's parameters are held
pub record AreOneRelease (names : List (List ℕ)) (tree : TreeParts) (decider : DeciderParts) (config : Choices) : Type 0 where
  pub names_are : IsOf names tree
  pub decider_is : IsDeciderOf tree decider
  pub parameters : All (λ name. name < length names) config.names
