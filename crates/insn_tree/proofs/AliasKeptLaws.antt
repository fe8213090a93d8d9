-- What the table of aliases says of them.
use Rattle.std.proofs.Common.{◌≡◌, ◌∙◌, sym, ap, subst, ℕ, ◌+◌, ◌<◌, ◌==◌, List, length, map, get_or, slice_get, Option, Some, None, IfSome, option_map, drop, arith}
use Rattle.std.specs.Prelude.{slice_index_or}
use Rattle.std.specs.List.{list_all}
use Rattle.std.proofs.lemmas.List.{length-map, length-drop, get_or-map, get_or_default}
use Rattle.std.proofs.lemmas.Option.{get_or_from_slice_get}
use Rattle.spec_bits.specs.Item.{item_holds}
use Rattle.spec_instructions.specs.Aliases.{AliasPath}
use Rattle.bit_pattern.specs.declared.pattern.Pattern.{Pattern}
use Rattle.bit_pattern.specs.Views.{digits_of}
use Rattle.mrs_arena.specs.Flat.{FlatNode}
use Rattle.mrs_arena.specs.Nodes.{parents_of}
use Rattle.mrs_arena.specs.Placed.{aliases_of, leaves_of}
use Rattle.insn_tree.specs.declared.leaf_id.LeafId.{LeafId}
use Rattle.insn_tree.specs.declared.leaf_id.AliasId.{AliasId}
use Rattle.insn_tree.specs.declared.alias_table.AliasTable.{AliasTable}
use Rattle.insn_tree.specs.Leaves.{leaf_above}
use Rattle.insn_tree.specs.Aliases.{alias_by, aliases_by, no_alias, alias_from}
use Rattle.insn_tree.specs.Chains.{alias_leaves, next_from}
use Rattle.insn_tree.specs.Words.{own_merged_at}
use Rattle.insn_tree.specs.Trees.{IsLeafAbove}
use Rattle.insn_tree.specs.Kept.{AreAliases}
use Rattle.insn_tree.proofs.ListLaws.{image-at}
use Rattle.insn_tree.proofs.HoldLaws.{holds_of}
use Rattle.insn_tree.proofs.AliasLaws.{alias-at, own-holds, leaf_of_parent, next-is, position_from-within}

-- the table of the nodes that a tree shows
pub AreAliases-of : (table : AliasTable) (nodes shown : List FlatNode) → nodes ≡ shown → AreAliases nodes table → AreAliases shown table
AreAliases-of table nodes shown same kept = subst (λ (ns : List FlatNode). AreAliases ns table) same kept

-- an alias that is found is one of all, and comes no earlier than where one began to look
pub found_from : (names : List (List ℕ)) (nodes : List FlatNode) (l from : ℕ) (o : Option AliasId) → option_map (λ a. a.0) o ≡ alias_from (aliases_by names nodes) l from → IfSome o (λ a. a.0 < length (aliases_of nodes))
found_from names nodes l from None is = tt
found_from names nodes l from (Some a) is =
    let aliases = aliases_by names nodes in
    let h = position_from-within (λ (alias : AliasPath). alias.leaf == l) from a.0 (drop from aliases) (sym is) in
    omega (arith, h.0, h.1, length-drop from aliases, length-map (aliases_of nodes) (alias_by names nodes))

pub found_after : (names : List (List ℕ)) (nodes : List FlatNode) (l a : ℕ) (o : Option AliasId) → option_map (λ b. b.0) o ≡ alias_from (aliases_by names nodes) l (a + 1) → IfSome o (λ b. a < b.0)
found_after names nodes l a None is = tt
found_after names nodes l a (Some b) is = omega (arith, (position_from-within (λ (alias : AliasPath). alias.leaf == l) (a + 1) b.0 (drop (a + 1) (aliases_by names nodes)) (sym is)).0)

module _ (nodes : List FlatNode) (table : AliasTable) (kept : AreAliases nodes table) where
  -- the first alias of a leaf
  pub first_kept : (l : ℕ) → l < length (leaves_of nodes) → (o : Option AliasId) → o ≡ get_or table.chains.firsts.items l o → (names : List (List ℕ)) → option_map (λ a. a.0) o ≡ alias_from (aliases_by names nodes) l 0
  first_kept l within o at names =
      let low : l < length (leaves_of nodes) + 1 = omega (arith, within) in
      ap (option_map (λ (a : AliasId). a.0)) (at ∙ get_or_default table.chains.firsts.items l o None (omega (arith, low, kept.chains_are.as_leaves)))
      ∙ kept.chains_are.firsts l low
      ∙ next-is names nodes l 0

  module _ (a : ℕ) (within : a < length (aliases_of nodes)) where
    abbrev here : ℕ
    here = get_or (aliases_of nodes) a 0

    as_many : length (alias_leaves nodes) ≡ length (aliases_of nodes)
    as_many = length-map (aliases_of nodes) (leaf_above nodes)

    leaf_here : get_or (alias_leaves nodes) a 0 ≡ leaf_above nodes here
    leaf_here = get_or-map (leaf_above nodes) (aliases_of nodes) a 0 0 within

    pub leaf_kept : (l : LeafId) → l ≡ get_or table.leaves.items a l → (n : ℕ) → slice_get (aliases_of nodes) a ≡ Some n → IsLeafAbove nodes n l.0
    leaf_kept l at n node =
        let above : l.0 ≡ leaf_above nodes here = image-at (λ (m : LeafId). m.0) table.leaves.items (alias_leaves nodes) kept.leaves_are a l 0 (omega (arith, within, as_many)) at ∙ leaf_here in
        let is : l.0 ≡ leaf_above nodes n = above ∙ ap (leaf_above nodes) (get_or_from_slice_get (aliases_of nodes) a n 0 node) in
        subst (λ (k : ℕ). IsLeafAbove nodes n k) (sym is) (leaf_of_parent nodes (get_or (parents_of nodes) n None))

    -- the next one of its leaf
    pub next_kept : (o : Option AliasId) → o ≡ get_or table.chains.nexts.items a o → (names : List (List ℕ)) → option_map (λ b. b.0) o ≡ alias_from (aliases_by names nodes) (slice_index_or (aliases_by names nodes) a no_alias).leaf (a + 1)
    next_kept o at names =
        let low : a < length (alias_leaves nodes) = omega (arith, within, as_many) in
        ap (option_map (λ (b : AliasId). b.0)) (at ∙ get_or_default table.chains.nexts.items a o None (omega (arith, low, kept.chains_are.as_aliases)))
        ∙ kept.chains_are.nexts a low
        ∙ ap (λ l. next_from (alias_leaves nodes) l (a + 1)) (leaf_here ∙ sym (ap (λ (alias : AliasPath). alias.leaf) (alias-at names nodes a within)))
        ∙ next-is names nodes (slice_index_or (aliases_by names nodes) a no_alias).leaf (a + 1)

    -- its own items
    pub own_kept : (o : Option Pattern) → o ≡ get_or table.own.items a o → (names : List (List ℕ)) (w : ℕ) → holds_of (option_map digits_of o) w ≡ list_all (λ it. item_holds it w) (slice_index_or (aliases_by names nodes) a no_alias).own.items
    own_kept o at names w =
        let count : a < length (map (own_merged_at nodes) (aliases_of nodes)) = omega (arith, within, length-map (aliases_of nodes) (own_merged_at nodes)) in
        ap (λ ds. holds_of ds w)
        (image-at (option_map digits_of) table.own.items (map (own_merged_at nodes) (aliases_of nodes)) kept.own_are a o None count at
        ∙ get_or-map (own_merged_at nodes) (aliases_of nodes) a 0 None within)
        ∙ own-holds names nodes kept.paths.formed here w
        ∙ ap (λ (alias : AliasPath). list_all (λ it. item_holds it w) alias.own.items) (sym (alias-at names nodes a within))
