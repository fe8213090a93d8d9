-- A word holds at all items along a path of an arena exactly where it holds of what they fix together.
use Rattle.std.proofs.Common.{◌≡◌, ◌∙◌, sym, ap, subst, ℕ, List, map, All}
use Rattle.std.specs.Prelude.{slice_index_or}
use Rattle.std.specs.List.{list_all}
use Rattle.std.proofs.lemmas.List.Elements.{All-map}
use Rattle.spec_bits.specs.Item.{item_holds}
use Rattle.spec_instructions.specs.Fields.{joined_items, merged, IsWithinWord}
use Rattle.spec_instructions.specs.Paths.{path_items}
use Rattle.spec_decode.specs.Verdict.{path_holds}
use Rattle.spec_decode.specs.Bucket.{AreWithinWord}
pub use Rattle.spec_decode.proofs.HoldLaws.{holds_of}
use Rattle.spec_decode.proofs.HoldLaws.{joined-all}
use Rattle.mrs_arena.specs.Flat.{FlatItem, FlatNode}
use Rattle.mrs_arena.specs.Formed.{IsItem, AreNodes}
use Rattle.mrs_arena.specs.Placed.{item_of, path_to, paths_of, leaves_of}
use Rattle.ast_eval.specs.Fields.{items_to}
use Rattle.ast_eval.proofs.PathLaws.{path_items_to, all_to}
use Rattle.insn_tree.proofs.UpwardLaws.{formed_items}

pub fit_items : (names : List (List ℕ)) (items : List FlatItem) → All IsItem items → All IsWithinWord (map (item_of names) items)
fit_items names items formed = All-map IsWithinWord (item_of names) items (λ k d h. (formed k d h).fits)

-- the items along a path lie within the word
pub items_within : (names : List (List ℕ)) (nodes : List FlatNode) → AreNodes nodes → (n : ℕ) → All IsWithinWord (path_items (path_to names nodes n))
items_within names nodes formed n =
    subst (λ its. All IsWithinWord its) (sym (path_items_to names nodes n)) (fit_items names (items_to nodes n) (all_to IsItem nodes (formed_items nodes formed) n))

pub paths_within : (names : List (List ℕ)) (nodes : List FlatNode) → AreNodes nodes → AreWithinWord (paths_of names nodes)
paths_within names nodes formed = All-map (λ path. All IsWithinWord (path_items path)) (path_to names nodes) (leaves_of nodes) (λ k d h. items_within names nodes formed (slice_index_or (leaves_of nodes) k d))

-- what the items along a path fix holds where the path does
pub merged-holds : (names : List (List ℕ)) (nodes : List FlatNode) → AreNodes nodes → (n w : ℕ) → holds_of (merged (path_to names nodes n)) w ≡ path_holds (path_to names nodes n) w
merged-holds names nodes formed n w =
    let flat = items_to nodes n in
    let items = path_items_to names nodes n in
    ap (λ its. holds_of (joined_items its) w) items
    ∙ (joined-all w (map (item_of names) flat) (fit_items names flat (all_to IsItem nodes (formed_items nodes formed) n))).holds
    ∙ ap (λ its. list_all (λ it. item_holds it w) its) (sym items)
