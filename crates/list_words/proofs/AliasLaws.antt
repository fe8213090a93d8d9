-- The lines of the aliases of a leaf, one alias after the other.
use Rattle.std.proofs.Common.{◌≡◌, ◌≢◌, ◌∙◌, sym, ap, refl, subst, ℕ, ◌+◌, ◌<◌, ◌==◌, Bool, true, false, cond, List, [], ◌∷◌, ◌++◌, length, drop, flat_map, get_or, Option, Some, None, IfSome, option_map, append_assoc, append-nil}
use Rattle.std.specs.List.{position_from}
use Rattle.std.proofs.lemmas.Bool.Decides.{Decides-eqb}
use Rattle.std.proofs.lemmas.Option.{get_or_from_slice_get}
use Rattle.spec_instructions.specs.Aliases.{AliasPath}
use Rattle.spec_lines.specs.LeafAliases.{numbers_from, alias_line, alias_lines}
use Rattle.mrs_arena.specs.Placed.{aliases_of}
use Rattle.mrs_arena.proofs.TreePaths.{get_next, drop_next}
use Rattle.insn_tree.specs.declared.leaf_id.AliasId.{AliasId}
use Rattle.insn_tree.specs.Aliases.{no_alias, alias_from}
use Rattle.insn_tree.specs.Trees.{TreeParts, tree_aliases, alias_at}

-- ---- the numbers of a leaf's aliases, by the first of them

module _ (all : List AliasPath) (k : ℕ) where
  abbrev is_of : AliasPath → Bool
  is_of alias = alias.leaf == k

  none_left : (i : ℕ) (xs : List AliasPath) → position_from is_of i xs ≡ None → numbers_from k i xs ≡ []
  none_left i [] none = refl
  none_left i (x ∷ xs) none = go (x.leaf == k) none (none_left (i + 1) xs)
    where
      go : (b : Bool) → cond b (Some i) (position_from is_of (i + 1) xs) ≡ None → (position_from is_of (i + 1) xs ≡ None → numbers_from k (i + 1) xs ≡ []) → cond b (i ∷ numbers_from k (i + 1) xs) (numbers_from k (i + 1) xs) ≡ []
      go true e rest = absurd cc
      go false e rest = rest e

  record Met (i a : ℕ) (xs : List AliasPath) : Type 0 where
    pub leaf_is : (get_or all a no_alias).leaf ≡ k
    pub goes : numbers_from k i xs ≡ a ∷ numbers_from k (a + 1) (drop (a + 1) all)

  met : (i a : ℕ) (xs : List AliasPath) → drop i all ≡ xs → position_from is_of i xs ≡ Some a → Met i a xs
  met i a [] left some = absurd cc
  met i a (x ∷ xs) left some = go (x.leaf == k) refl some (λ e. met (i + 1) a xs (drop_next all i x xs left) e)
    where
      here : get_or all i no_alias ≡ x
      here = get_or_from_slice_get all i x no_alias (get_next all i x xs left)

      go : (b : Bool) → (x.leaf == k) ≡ b → cond b (Some i) (position_from is_of (i + 1) xs) ≡ Some a → (position_from is_of (i + 1) xs ≡ Some a → Met (i + 1) a xs) → Met i a (x ∷ xs)
      go true is e rest =
          let same : i ≡ a = cc e in record {
            leaf_is = ap (λ j. (get_or all j no_alias).leaf) (sym same) ∙ ap (λ (y : AliasPath). y.leaf) here ∙ (Decides-eqb x.leaf k).0 is;
            goes =
                ap (λ b. cond b (i ∷ numbers_from k (i + 1) xs) (numbers_from k (i + 1) xs)) is
                ∙ ap (λ ys. i ∷ numbers_from k (i + 1) ys) (sym (drop_next all i x xs left))
                ∙ ap (λ j. j ∷ numbers_from k (j + 1) (drop (j + 1) all)) same;
          }
      go false is e rest = record { leaf_is = (rest e).leaf_is; goes = ap (λ b. cond b (i ∷ numbers_from k (i + 1) xs) (numbers_from k (i + 1) xs)) is ∙ (rest e).goes }

-- ---- the walk

-- the next alias of the leaf is the first from some number on, and with the lines from there on the whole is told
pub record Listing (names : List (List ℕ)) (tree : TreeParts) (k : ℕ) (whole out : List ℕ) (next : Option AliasId) : Type 0 where
  pub from : ℕ
  pub within : IfSome next (λ a. a.0 < length (aliases_of tree.nodes))
  pub next_is : option_map (λ a. a.0) next ≡ alias_from (tree_aliases names tree) k from
  pub told : out ++ flat_map (alias_line (tree_aliases names tree)) (numbers_from k from (drop from (tree_aliases names tree))) ≡ whole

module _ (names : List (List ℕ)) (tree : TreeParts) (k : ℕ) (whole out : List ℕ) where
  abbrev aliases : List AliasPath
  aliases = tree_aliases names tree

  pub listing_begins : (next : Option AliasId) → IfSome next (λ a. a.0 < length (aliases_of tree.nodes)) → option_map (λ a. a.0) next ≡ alias_from aliases k 0 → whole ≡ out ++ alias_lines aliases k → Listing names tree k whole out next
  listing_begins next within is all = record { from = 0; within = within; next_is = is; told = sym all }

  -- no alias of the leaf is left
  pub listing_ends : (next : Option AliasId) → ((a : AliasId) → next ≢ Some a) → Listing names tree k whole out next → out ≡ whole
  listing_ends (Some a) none walk = absurd (none a refl)
  listing_ends None none walk =
      sym (append-nil out)
      ∙ ap (λ ns. out ++ flat_map (alias_line aliases) ns) (sym (none_left aliases k walk.from (drop walk.from aliases) (sym walk.next_is)))
      ∙ walk.told

  -- the next one is told
  pub listing_on : (a : AliasId) (next after : Option AliasId) (more : List ℕ) → next ≡ Some a → Listing names tree k whole out next → more ≡ out ++ alias_line aliases a.0
      → IfSome after (λ b. b.0 < length (aliases_of tree.nodes)) → option_map (λ b. b.0) after ≡ alias_from aliases (alias_at names tree a.0).leaf (a.0 + 1) → Listing names tree k whole more after
  listing_on a next after more is walk line within follows =
      let here : Met aliases k walk.from a.0 (drop walk.from aliases) = met aliases k walk.from a.0 (drop walk.from aliases) refl (sym walk.next_is ∙ ap (option_map (λ (a : AliasId). a.0)) is) in
      let left : List ℕ = flat_map (alias_line aliases) (numbers_from k (a.0 + 1) (drop (a.0 + 1) aliases)) in
      record {
        from = a.0 + 1;
        within = within;
        next_is = follows ∙ ap (λ j. alias_from aliases j (a.0 + 1)) here.leaf_is;
        told = ap (λ (t : List ℕ). t ++ left) line ∙ append_assoc out (alias_line aliases a.0) left ∙ ap (λ ns. out ++ flat_map (alias_line aliases) ns) (sym here.goes) ∙ walk.told;
      }

-- the next alias is one of the tree's
pub next_listed : (names : List (List ℕ)) (tree : TreeParts) (k : ℕ) (whole out : List ℕ) (a : AliasId) (next : Option AliasId) → next ≡ Some a → Listing names tree k whole out next → a.0 < length (aliases_of tree.nodes)
next_listed names tree k whole out a next is walk = subst (λ (o : Option AliasId). IfSome o (λ b. b.0 < length (aliases_of tree.nodes))) is walk.within
