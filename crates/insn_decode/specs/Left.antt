-- The leaves that are found among some, as the iterator over them gives them.
use Rattle.std.specs.Prelude.{ℕ, List, [], ◌∷◌, Option, Some, None}
use Rattle.spec_expressions.specs.Truth as spec
use Rattle.spec_decode.specs.Found.{Candidate}
use Rattle.spec_decode.specs.Bucket.{Encoding}
use Rattle.ast_eval.specs.Choices.{Choices}
use Rattle.ast_eval.specs.Views.{truth_of}
use Rattle.ast_eval.specs.declared.kleene.Truth.{Truth}
use Rattle.ast_eval.specs.declared.kleene.Truth.TheVariants.{Yes, Open}
use Rattle.insn_tree.specs.declared.leaf_id.LeafId.{LeafId}
use Rattle.insn_tree.specs.Trees.{TreeParts}
use Rattle.insn_tree.specs.OwnTexts.{leaf_verdict}

-- a leaf and its verdict, before others, unless it is excluded
abbrev pub with_item : ℕ → spec.Truth → List (LeafId × Truth) → List (LeafId × Truth)
with_item k spec.Yes others = (record { 0 = k }, Yes) ∷ others
with_item k spec.No others = others
with_item k spec.Open others = (record { 0 = k }, Open) ∷ others

-- what an answer puts before others
abbrev pub before_others : Option (LeafId × Truth) → List (LeafId × Truth) → List (LeafId × Truth)
before_others None others = others
before_others (Some item) others = item ∷ others

-- those of these leaves at which the word is found
abbrev pub found_left : TreeParts → Choices → ℕ → List Encoding → List (LeafId × Truth)
found_left tree c w [] = []
found_left tree c w (e ∷ es) = with_item e.leaf (leaf_verdict tree c w e.leaf) (found_left tree c w es)

-- an item of the iterator as a candidate
abbrev pub candidate_of : LeafId × Truth → Candidate
candidate_of item = record { leaf = item.0.0; verdict = truth_of item.1 }
