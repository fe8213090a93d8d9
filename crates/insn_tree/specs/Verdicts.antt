-- What paths of an arena say of a word, by the texts of any names that are held.
use Rattle.std.specs.Prelude.{◌≡◌, ◌<◌, ℕ, List, [], length, All}
use Rattle.spec_expressions.specs.Truth.{Truth}
use Rattle.spec_decode.specs.Verdict.{conditions_from, verdict}
use Rattle.mrs_names.specs.Texts.{AreNames}
use Rattle.mrs_arena.specs.Flat.{FlatNode}
use Rattle.mrs_arena.specs.Placed.{text_of, AreHeld}
use Rattle.ast_eval.specs.Choices.{Choices, configuration_of}
use Rattle.insn_tree.specs.Conditions.{conditions_at}
use Rattle.insn_tree.specs.Trees.{TreeParts, path_at}

-- distinct names are held, among them those of the nodes and of the parameters
pub record AreHeldBy (names : List (List ℕ)) (nodes : List FlatNode) (c : Choices) : Type 0 where
  pub distinct : AreNames names
  pub nodes_are : AreHeld names nodes
  pub parameters : All (λ name. name < length names) c.names

-- the truth is that of the conditions down to node n
abbrev pub AreConditions : List FlatNode → ℕ → Choices → ℕ → Truth → Type 0
AreConditions nodes n c w t = (names : List (List ℕ)) → AreHeldBy names nodes c → t ≡ conditions_at names nodes (configuration_of (text_of names) c) w n

-- the truth is the verdict of the path to leaf l
abbrev pub IsVerdictOf : TreeParts → ℕ → Choices → ℕ → Truth → Type 0
IsVerdictOf tree l c w t = (names : List (List ℕ)) → AreHeldBy names tree.nodes c → t ≡ verdict (path_at names tree l) (configuration_of (text_of names) c) w

-- the truth is that of the conditions along the path to leaf l
abbrev pub AreConditionsOf : TreeParts → ℕ → Choices → ℕ → Truth → Type 0
AreConditionsOf tree l c w t = (names : List (List ℕ)) → AreHeldBy names tree.nodes c → t ≡ conditions_from [] (path_at names tree l) (configuration_of (text_of names) c) w
