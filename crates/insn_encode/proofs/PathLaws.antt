-- What is given of the path to a node, by any name of that path, and what is answered along it.
use Rattle.std.proofs.Common.{◌≡◌, ◌∙◌, sym, ap, subst, ℕ, ◌+◌, ◌<◌, ◌≤◌, List, length, map, All}
use Rattle.std.specs.Prelude.{Result, ◌↔◌}
use Rattle.spec_expressions.specs.Scope.{Configuration}
use Rattle.spec_instructions.specs.Tree.{Own}
use Rattle.spec_instructions.specs.Paths.{path_items}
use Rattle.spec_instructions.specs.Fields.{fields, IsWithinWord}
use Rattle.spec_encoding.specs.Layout.{numbers}
use Rattle.spec_encoding.specs.PathLayout.{layout}
use Rattle.spec_encoding.specs.Refusal.{Refusal, with_node}
use Rattle.spec_encoding.specs.Encoding.{encoding, Encodes}
use Rattle.word_layout.specs.declared.layout.WordLayout.{WordLayout}
use Rattle.word_layout.specs.Views.{numbers_of}
use Rattle.mrs_names.specs.Texts.{AreNames}
use Rattle.mrs_arena.specs.Flat.{FlatNode}
use Rattle.mrs_arena.specs.Placed.{text_of, path_to, AreHeld}
use Rattle.ast_eval.specs.Choices.{Choices, configuration_of}
use Rattle.insn_tree.specs.Verdicts.{AreHeldBy}
use Rattle.insn_encode.specs.Held.{node_at}
use Rattle.insn_tree.specs.declared.field_range.FieldRange.{FieldRange}
use Rattle.insn_tree.specs.Trees.{field_of}
use Rattle.insn_encode.specs.Paths.{IsPath}

module _ (nodes : List FlatNode) (n : ℕ) (path : List (List ℕ) → List Own) (is : (names : List (List ℕ)) → path names ≡ path_to names nodes n) where
  pub path_given : (fs : List FieldRange) (b : WordLayout)
      → ((names : List (List ℕ)) → AreNames names → AreHeld names nodes → map (field_of names) fs ≡ fields (path names)) → All (λ f. f.range.start + f.range.width ≤ 32) fs → ((names : List (List ℕ)) → AreHeld names nodes → All (λ f. f.name.0 < length names) fs)
      → ((names : List (List ℕ)) → AreNames names → AreHeld names nodes → numbers_of b ≡ numbers (layout (path names))) → ((names : List (List ℕ)) → All IsWithinWord (path_items (path names)))
      → IsPath nodes n fs b
  path_given fs b visible within held numbers_are items = record {
    visible = λ names are all. visible names are all ∙ ap fields (is names);
    within = within;
    held = held;
    numbers_are = λ names are all. numbers_are names are all ∙ ap (λ p. numbers (layout p)) (is names);
    items = λ names. subst (λ p. All IsWithinWord (path_items p)) (is names) (items names);
  }

-- what is answered along the path to a node of the arena that a tree shows, by that tree's nodes and by another name of the path
module _ (names : List (List ℕ)) (shown nodes : List FlatNode) (same : shown ≡ nodes) (n m : ℕ) (number : m ≡ n) (path : List Own) (is : path ≡ path_to names nodes n) (c : Choices) (pairs : List (List ℕ × ℕ)) (rest : ℕ) (hold : AreHeldBy names nodes c) where
  abbrev g : Configuration
  g = configuration_of (text_of names) c

  pub answer_moved : (r : Result ℕ (Refusal (List ℕ))) → (AreHeldBy names shown c → r ≡ with_node (node_at shown n) (encoding (path_to names shown n) g pairs rest)) → r ≡ with_node (node_at nodes m) (encoding path g pairs rest)
  answer_moved r told =
      subst (λ (ns : List FlatNode). AreHeldBy names ns c → r ≡ with_node (node_at ns n) (encoding (path_to names ns n) g pairs rest)) same told hold
      ∙ ap (λ (p : List Own). with_node (node_at nodes n) (encoding p g pairs rest)) (sym is)
      ∙ ap (λ (k : ℕ). with_node (node_at nodes k) (encoding path g pairs rest)) (sym number)

  pub word_moved : (A : Type 0) (w : ℕ) → (AreHeldBy names shown c → A ↔ Encodes (path_to names shown n) g pairs rest w) → A ↔ Encodes path g pairs rest w
  word_moved A w told =
      subst (λ (p : List Own). A ↔ Encodes p g pairs rest w) (sym is) (subst (λ (ns : List FlatNode). AreHeldBy names ns c → A ↔ Encodes (path_to names ns n) g pairs rest w) same told hold)
