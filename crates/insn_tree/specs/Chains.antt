-- The aliases of each leaf, one after another, by the numbers of leaves.
use Rattle.std.specs.Prelude.{◌≡◌, ◌<◌, ℕ, ◌+◌, ◌==◌, List, length, map, drop, option_map, slice_index_or, Option, None}
use Rattle.std.specs.List.{position_from}
use Rattle.mrs_arena.specs.Flat.{FlatNode}
use Rattle.mrs_arena.specs.Placed.{aliases_of}
use Rattle.insn_tree.specs.Leaves.{leaf_above}
use Rattle.insn_tree.specs.declared.leaf_id.AliasId.{AliasId}
use Rattle.insn_tree.specs.declared.alias_chains.AliasChains.{AliasChains}

-- the leaf above each alias
abbrev pub alias_leaves : List FlatNode → List ℕ
alias_leaves nodes = map (leaf_above nodes) (aliases_of nodes)

-- the number of the first alias of leaf l from number a on, where these are the leaves of the aliases
abbrev pub next_from : List ℕ → ℕ → ℕ → Option ℕ
next_from leaves l a = position_from (λ k. k == l) a (drop a leaves)

-- the number that may be kept at a place
abbrev pub number_at : List (Option AliasId) → ℕ → Option ℕ
number_at ids k = option_map (λ a. a.0) (slice_index_or ids k None)

-- for each of so many leaves its first alias is kept, and for each alias the next one of its leaf
pub record AreChains (leaves : List ℕ) (count : ℕ) (chains : AliasChains) : Type 0 where
  pub as_leaves : length chains.firsts.items ≡ count
  pub as_aliases : length chains.nexts.items ≡ length leaves
  pub firsts : (l : ℕ) → l < count → number_at chains.firsts.items l ≡ next_from leaves l 0
  pub nexts : (a : ℕ) → a < length leaves → number_at chains.nexts.items a ≡ next_from leaves (slice_index_or leaves a 0) (a + 1)
