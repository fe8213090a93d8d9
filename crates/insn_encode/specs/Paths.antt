-- What the encoder is given of a path.
use Rattle.std.specs.Prelude.{◌≡◌, ◌<◌, ◌≤◌, ◌+◌, ℕ, List, length, map, All}
use Rattle.spec_instructions.specs.Paths.{path_items}
use Rattle.spec_instructions.specs.Fields.{fields, IsWithinWord}
use Rattle.spec_encoding.specs.Layout.{numbers}
use Rattle.spec_encoding.specs.PathLayout.{layout}
use Rattle.word_layout.specs.declared.layout.WordLayout.{WordLayout}
use Rattle.word_layout.specs.Views.{numbers_of}
use Rattle.mrs_names.specs.Texts.{AreNames}
use Rattle.mrs_arena.specs.Flat.{FlatNode}
use Rattle.mrs_arena.specs.Placed.{path_to, AreHeld}
use Rattle.insn_tree.specs.declared.field_range.FieldRange.{FieldRange}
use Rattle.insn_tree.specs.Trees.{field_of}

-- of the path to node n these are the visible fields, and that is what it says of the bits of words
pub record IsPath (nodes : List FlatNode) (n : ℕ) (fs : List FieldRange) (b : WordLayout) : Type 0 where
  pub visible : (names : List (List ℕ)) → AreNames names → AreHeld names nodes → map (field_of names) fs ≡ fields (path_to names nodes n)
  pub within : All (λ f. f.range.start + f.range.width ≤ 32) fs
  pub held : (names : List (List ℕ)) → AreHeld names nodes → All (λ f. f.name.0 < length names) fs
  pub numbers_are : (names : List (List ℕ)) → AreNames names → AreHeld names nodes → numbers_of b ≡ numbers (layout (path_to names nodes n))
  pub items : (names : List (List ℕ)) → All IsWithinWord (path_items (path_to names nodes n))
