-- Names that only grow go on to serve a tree.
use Rattle.std.proofs.Common.{◌≡◌, ◌∙◌, sym, ap, refl, ℕ, List, [], ◌∷◌, map, reverse, Option, Some, None}
use Rattle.std.specs.Prelude.{slice_index_or}
use Rattle.spec_instructions.specs.Tree.{Own}
use Rattle.spec_instructions.specs.Paths.{labelled_leaf}
use Rattle.spec_instructions.specs.Aliases.{AliasPath, labelled_alias}
use Rattle.mrs_names.specs.Texts.{IsExtended}
use Rattle.mrs_arena.specs.Flat.{FlatNode}
use Rattle.mrs_arena.specs.Paths.{ancestors}
use Rattle.mrs_arena.specs.Nodes.{parents_of}
use Rattle.mrs_arena.specs.Placed.{Placed, placed_node, own_of_flat, no_own, own_at, aliases_of, AreHeld}
use Rattle.mrs_arena.proofs.HeldLaws.{AreHeld-extended, placed-extended}
use Rattle.mrs_arena.proofs.TreePaths.{paths_of-extended}
use Rattle.insn_tree.specs.Conditions.{path_above}
use Rattle.insn_tree.specs.Leaves.{leaf_above}
use Rattle.insn_tree.specs.Aliases.{alias_by, aliases_by}
use Rattle.insn_tree.specs.Grown.{GrownNamesServe}
use Rattle.insn_tree.proofs.ListLaws.{map-twice}

-- ---- aliases

module _ (old new : List (List ℕ)) (nodes : List FlatNode) (grown : IsExtended old new) (held : AreHeld old nodes) where
  -- what nodes say of themselves stays
  owns_same : map (own_of_flat new) nodes ≡ map (own_of_flat old) nodes
  owns_same =
      sym (map-twice (placed_node new) (λ (p : Placed). p.own) nodes) ∙ ap (map (λ (p : Placed). p.own)) (placed-extended old new nodes grown held) ∙ map-twice (placed_node old) (λ (p : Placed). p.own) nodes

  above_same : (o : Option ℕ) → path_above new nodes o ≡ path_above old nodes o
  above_same None = refl
  above_same (Some p) = ap (λ (owns : List Own). map (λ k. slice_index_or owns k no_own) (reverse (ancestors (parents_of nodes) p))) owns_same

  alias_same : (n : ℕ) → alias_by new nodes n ≡ alias_by old nodes n
  alias_same n =
      let parent = slice_index_or (parents_of nodes) n None in
      ap (λ (above : List Own). record { leaf = leaf_above nodes n; above = above; own = own_at new nodes n }) (above_same parent)
      ∙ ap (λ (owns : List Own). record { leaf = leaf_above nodes n; above = path_above old nodes parent; own = slice_index_or owns n no_own }) owns_same

  each_same : (ns : List ℕ) → map (alias_by new nodes) ns ≡ map (alias_by old nodes) ns
  each_same [] = refl
  each_same (n ∷ ns) = ap (λ (alias : AliasPath). alias ∷ map (alias_by new nodes) ns) (alias_same n) ∙ ap (λ aliases. alias_by old nodes n ∷ aliases) (each_same ns)

pub aliases_by-extended : (old new : List (List ℕ)) (nodes : List FlatNode) → IsExtended old new → AreHeld old nodes → aliases_by new nodes ≡ aliases_by old nodes
aliases_by-extended old new nodes grown held = each_same old new nodes grown held (aliases_of nodes)

-- ---- the tree

pub serve_as_well : GrownNamesServe
serve_as_well earlier later tree is are grown =
    let paths = paths_of-extended earlier later tree.nodes grown is.held in
    let aliases = aliases_by-extended earlier later tree.nodes grown is.held in
    record {
      paths = paths;
      aliases = aliases;
      labels = record {
        names_are = are;
        held = AreHeld-extended earlier later tree.nodes grown is.held;
        labels = λ text. is.labels text ∙ ap (λ ps. labelled_leaf ps text) (sym paths);
        alias_labels = λ text. is.alias_labels text ∙ ap (λ all. labelled_alias all text) (sym aliases);
      };
    }
