-- The walk along the aliases of a leaf.
use Rattle.std.proofs.Common.{◌≡◌, ◌∙◌, sym, ap, refl, subst, ℕ, ◌+◌, ◌-◌, ◌<◌, ◌==◌, Bool, true, false, ◌&&◌, cond, List, [], ◌∷◌, length, drop, get_or, Option, Some, None, IfSome, option_map, arith}
use Rattle.std.specs.List.{position_from}
use Rattle.std.proofs.lemmas.Bool.Decides.{Decides-eqb}
use Rattle.std.proofs.lemmas.Option.{get_or_from_slice_get}
use Rattle.spec_expressions.specs.Scope.{Configuration}
use Rattle.spec_instructions.specs.Aliases.{AliasPath}
use Rattle.spec_decode.specs.Preferred.{is_preferable, preferred}
use Rattle.mrs_arena.specs.Placed.{text_of, aliases_of}
use Rattle.mrs_arena.proofs.TreePaths.{get_next, drop_next}
use Rattle.ast_eval.specs.Choices.{Choices, configuration_of}
use Rattle.insn_tree.specs.declared.leaf_id.AliasId.{AliasId}
use Rattle.insn_tree.specs.Aliases.{no_alias, alias_from}
use Rattle.insn_tree.specs.Trees.{TreeParts, tree_aliases, alias_at}
use Rattle.insn_tree.specs.Verdicts.{AreHeldBy}

-- ---- the first that passes two tests, by the first that passes one

module _ {X : Type 0} (p q : X → Bool) (all : List X) (d : X) where
  abbrev both : X → Bool
  both x = p x && q x

  none_of : (i : ℕ) (xs : List X) → position_from p i xs ≡ None → position_from both i xs ≡ None
  none_of i [] none = refl
  none_of i (x ∷ xs) none = go (p x) none (none_of (i + 1) xs)
    where
      go : (b : Bool) → cond b (Some i) (position_from p (i + 1) xs) ≡ None → (position_from p (i + 1) xs ≡ None → position_from both (i + 1) xs ≡ None) → cond (b && q x) (Some i) (position_from both (i + 1) xs) ≡ None
      go true e rest = absurd cc
      go false e rest = rest e

  pub record Met (i a : ℕ) (xs : List X) : Type 0 where
    pub passes : p (get_or all a d) ≡ true
    pub goes : position_from both i xs ≡ cond (q (get_or all a d)) (Some a) (position_from both (a + 1) (drop (a + 1) all))

  met : (i a : ℕ) (xs : List X) → drop i all ≡ xs → position_from p i xs ≡ Some a → Met i a xs
  met i a [] left some = absurd cc
  met i a (x ∷ xs) left some = go (p x) refl some (λ e. met (i + 1) a xs (drop_next all i x xs left) e)
    where
      here : get_or all i d ≡ x
      here = get_or_from_slice_get all i x d (get_next all i x xs left)

      go : (b : Bool) → p x ≡ b → cond b (Some i) (position_from p (i + 1) xs) ≡ Some a → (position_from p (i + 1) xs ≡ Some a → Met (i + 1) a xs) → Met i a (x ∷ xs)
      go true is e rest =
          let same : i ≡ a = cc e in
          let there : get_or all a d ≡ x = ap (λ k. get_or all k d) (sym same) ∙ here in
          record {
            passes = ap p there ∙ is;
            goes =
                ap (λ b. cond (b && q x) (Some i) (position_from both (i + 1) xs)) is
                ∙ ap (λ k. cond (q x) (Some k) (position_from both (i + 1) xs)) same
                ∙ ap (λ y. cond (q y) (Some a) (position_from both (i + 1) xs)) (sym there)
                ∙ ap (λ ys. cond (q (get_or all a d)) (Some a) (position_from both (i + 1) ys)) (sym (drop_next all i x xs left))
                ∙ ap (λ k. cond (q (get_or all a d)) (Some a) (position_from both (k + 1) (drop (k + 1) all))) same;
          }
      go false is e rest = record { passes = (rest e).passes; goes = ap (λ b. cond (b && q x) (Some i) (position_from both (i + 1) xs)) is ∙ (rest e).goes }

  pub walk_none : (i : ℕ) → position_from p i (drop i all) ≡ None → position_from both i (drop i all) ≡ None
  walk_none i none = none_of i (drop i all) none

  pub walk_some : (i a : ℕ) → position_from p i (drop i all) ≡ Some a → Met i a (drop i all)
  walk_some i a some = met i a (drop i all) refl some

-- ---- the walk

-- the next alias of the leaf that is looked at is the first from some number on, and from there on the preferred one is the tree's
pub record Walk (tree : TreeParts) (l : ℕ) (c : Choices) (w : ℕ) (next : Option AliasId) : Type 0 where
  pub from : ℕ
  pub within : IfSome next (λ a. a.0 < length (aliases_of tree.nodes))
  pub next_is : (names : List (List ℕ)) → option_map (λ a. a.0) next ≡ alias_from (tree_aliases names tree) l from
  pub rest : (names : List (List ℕ)) → AreHeldBy names tree.nodes c
      → position_from (λ alias. alias.leaf == l && is_preferable alias (configuration_of (text_of names) c) w) from (drop from (tree_aliases names tree)) ≡ preferred (tree_aliases names tree) l (configuration_of (text_of names) c) w

module _ (tree : TreeParts) (l : ℕ) (c : Choices) (w : ℕ) where
  pub walk_begins : (next : Option AliasId) → IfSome next (λ a. a.0 < length (aliases_of tree.nodes)) → ((names : List (List ℕ)) → option_map (λ a. a.0) next ≡ alias_from (tree_aliases names tree) l 0) → Walk tree l c w next
  walk_begins next within is = record { from = 0; within = within; next_is = is; rest = λ names held. refl }

  module _ (names : List (List ℕ)) where
    abbrev g : Configuration
    g = configuration_of (text_of names) c

    -- no alias of the leaf is left
    pub walk_ends : (next : Option AliasId) → next ≡ None → Walk tree l c w next → AreHeldBy names tree.nodes c → None ≡ preferred (tree_aliases names tree) l g w
    walk_ends next none walk held =
        sym (walk_none (λ (alias : AliasPath). alias.leaf == l) (λ (alias : AliasPath). is_preferable alias g w) (tree_aliases names tree) no_alias walk.from (sym (walk.next_is names) ∙ ap (option_map (λ (a : AliasId). a.0)) none)) ∙ walk.rest names held

    at_next : (a : AliasId) (next : Option AliasId) → next ≡ Some a → (walk : Walk tree l c w next) → Met (λ (alias : AliasPath). alias.leaf == l) (λ (alias : AliasPath). is_preferable alias g w) (tree_aliases names tree) no_alias walk.from a.0 (drop walk.from (tree_aliases names tree))
    at_next a next is walk =
        walk_some (λ (alias : AliasPath). alias.leaf == l) (λ (alias : AliasPath). is_preferable alias g w) (tree_aliases names tree) no_alias walk.from a.0 (sym (walk.next_is names) ∙ ap (option_map (λ (a : AliasId). a.0)) is)

    -- the next one may be preferred
    pub walk_stops : (a : AliasId) (next : Option AliasId) → next ≡ Some a → Walk tree l c w next → AreHeldBy names tree.nodes c → true ≡ is_preferable (alias_at names tree a.0) g w → Some a.0 ≡ preferred (tree_aliases names tree) l g w
    walk_stops a next is walk held passes =
        ap (λ b. cond b (Some a.0) (position_from (λ (alias : AliasPath). alias.leaf == l && is_preferable alias g w) (a.0 + 1) (drop (a.0 + 1) (tree_aliases names tree)))) passes ∙ sym (at_next a next is walk).goes ∙ walk.rest names held

    of_leaf : (a : AliasId) (next : Option AliasId) → next ≡ Some a → Walk tree l c w next → (alias_at names tree a.0).leaf ≡ l
    of_leaf a next is walk = (Decides-eqb (alias_at names tree a.0).leaf l).0 (at_next a next is walk).passes

    passed : (a : AliasId) (next : Option AliasId) → next ≡ Some a → Walk tree l c w next → AreHeldBy names tree.nodes c → false ≡ is_preferable (alias_at names tree a.0) g w
        → position_from (λ (alias : AliasPath). alias.leaf == l && is_preferable alias g w) (a.0 + 1) (drop (a.0 + 1) (tree_aliases names tree)) ≡ preferred (tree_aliases names tree) l g w
    passed a next is walk held fails =
        ap (λ b. cond b (Some a.0) (position_from (λ (alias : AliasPath). alias.leaf == l && is_preferable alias g w) (a.0 + 1) (drop (a.0 + 1) (tree_aliases names tree)))) fails ∙ sym (at_next a next is walk).goes ∙ walk.rest names held

  -- it may not
  pub walk_on : (a : AliasId) (next after : Option AliasId) → next ≡ Some a → Walk tree l c w next → ((names : List (List ℕ)) → AreHeldBy names tree.nodes c → false ≡ is_preferable (alias_at names tree a.0) (configuration_of (text_of names) c) w)
      → IfSome after (λ b. b.0 < length (aliases_of tree.nodes)) → ((names : List (List ℕ)) → option_map (λ b. b.0) after ≡ alias_from (tree_aliases names tree) (alias_at names tree a.0).leaf (a.0 + 1)) → Walk tree l c w after
  walk_on a next after is walk fails within follows = record {
    from = a.0 + 1;
    within = within;
    next_is = λ names. follows names ∙ ap (λ k. alias_from (tree_aliases names tree) k (a.0 + 1)) (of_leaf names a next is walk);
    rest = λ names held. passed names a next is walk held (fails names held);
  }

-- how many aliases are left at most
abbrev pub left : ℕ → Option AliasId → ℕ
left count None = 0
left count (Some a) = count - a.0

pub fewer_left : (count : ℕ) (a : AliasId) (after : Option AliasId) → a.0 < count → IfSome after (λ b. a.0 < b.0) → IfSome after (λ b. b.0 < count) → left count after < left count (Some a)
fewer_left count a None low later within = omega (arith, low)
fewer_left count a (Some b) low later within = omega (arith, low, later, within)

-- the next alias is one of the tree's
pub next_within : (tree : TreeParts) (l : ℕ) (c : Choices) (w : ℕ) (a : AliasId) (next : Option AliasId) → next ≡ Some a → Walk tree l c w next → a.0 < length (aliases_of tree.nodes)
next_within tree l c w a next is walk = subst (λ (o : Option AliasId). IfSome o (λ b. b.0 < length (aliases_of tree.nodes))) is walk.within
