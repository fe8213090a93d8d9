-- Leaves by what their verdicts are.
use Rattle.std.specs.Prelude.{◌≡◌, ℕ, ◌<◌, List, [], ◌∷◌, All, length, Some}
use Rattle.spec_instructions.specs.Paths.{path_items}
use Rattle.spec_instructions.specs.Fields.{merged, IsWithinWord}
use Rattle.spec_decode.specs.Verdict.{verdict}
use Rattle.spec_decode.specs.Bucket.{Encoding}
use Rattle.spec_decode.specs.Found.{Candidate}
use Rattle.mrs_arena.specs.Placed.{leaves_of}
use Rattle.ast_eval.specs.Views.{truth_of}
use Rattle.insn_tree.specs.Trees.{TreeParts, path_at}
use Rattle.insn_decode.specs.declared.found.Found.{Found}
use Rattle.insn_decode.specs.declared.found.Found.TheVariants.{Nothing, Lone, Several}

-- none is found, this one alone, or more
abbrev pub IsFound : Found → List Candidate → Type 0
IsFound Nothing found = found ≡ []
IsFound (Lone leaf verdict) found = found ≡ record { leaf = leaf.0; verdict = truth_of verdict } ∷ []
IsFound Several found = 1 < length found

-- a leaf of a tree, with what its path fixes, and whose items lie within the word
pub record IsMemberOf (tree : TreeParts) (e : Encoding) : Type 0 where
  pub leaf : e.leaf < length (leaves_of tree.nodes)
  pub fixed : (names : List (List ℕ)) → merged (path_at names tree e.leaf) ≡ Some e.digits
  pub within : (names : List (List ℕ)) → All IsWithinWord (path_items (path_at names tree e.leaf))
