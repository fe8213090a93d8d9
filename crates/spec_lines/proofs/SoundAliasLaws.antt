-- The aliases of an accepted document are sound, no more than there may be, and each is one of a leaf.
use Rattle.std.proofs.Common.{◌≡◌, ◌∙◌, sym, ap, refl, subst, ℕ, ◌+◌, true, List, [], ◌∷◌, ◌++◌, length, All, arith, append-nil, append_assoc}
use Rattle.std.proofs.lemmas.List.Elements.{All-from_recursion, All-nil, All-cons, All-append, All-map}
use Rattle.spec_walk.specs.Limits.{from_held}
use Rattle.spec_walk.specs.Spot.{root}
use Rattle.spec_walk.proofs.FirstFaultLaws.{answers-gives}
use Rattle.spec_instructions.specs.Name.{is_name}
use Rattle.spec_instructions.specs.Walk.{instructions}
use Rattle.spec_instructions.specs.Kind.{Kind, Set, Group, Leaf, Alias, Instance}
use Rattle.spec_instructions.specs.Encodeset.{named_in}
use Rattle.spec_instructions.specs.Tree.{Own, Node, node, Nodes, no_nodes, more}
use Rattle.spec_instructions.specs.Shape.{IsSoundItem, IsSoundOwn, IsSound, AreSound}
use Rattle.spec_instructions.specs.Paths.{paths_from, path_name, path_items}
use Rattle.spec_instructions.specs.Aliases.{AliasPath, alias_path, with_alias, leaf_aliases, aliases_at, aliases_from, aliases_among, aliases_in}
use Rattle.spec_instructions.specs.SoundPaths.{IsSoundPath}
use Rattle.spec_instructions.proofs.ShapeLaws.{read_shaped}
use Rattle.spec_instructions.proofs.NamedCounts.{named-append, Fits, HasFew, HaveFew, read_few}
use Rattle.spec_instructions.proofs.AliasLaws.{aliases_are_below_leaves}
use Rattle.spec_lines.specs.SoundAliases.{AliasesAreSound}
use Rattle.spec_lines.proofs.AliasCounts.{read_aliases}

-- ---- a path with one node more

items-last : (above : List Own) (own : Own) → path_items (above ++ own ∷ []) ≡ path_items above ++ own.items
items-last [] own = append-nil own.items
items-last (first ∷ above) own = ap (λ items. first.items ++ items) (items-last above own) ∙ sym (append_assoc first.items (path_items above) own.items)

name-last : (above : List Own) (own : Own) → path_name (above ++ own ∷ []) ≡ own.name
name-last [] own = refl
name-last (first ∷ []) own = refl
name-last (first ∷ next ∷ above) own = name-last (next ∷ above) own

-- what it is of, where the path before it is
record IsGoneOn (above : List Own) (own : Own) : Type 0 where
  sound : IsSoundPath (above ++ own ∷ [])
  named : named_in (path_items (above ++ own ∷ [])) ≡ named_in (path_items above) + named_in own.items

gone_on : (above : List Own) (own : Own) → All IsSoundItem (path_items above) → IsSoundOwn own → Fits (named_in (path_items above)) own.items → IsGoneOn above own
gone_on above own items sound few =
    let same = items-last above own in
    let count : named_in (path_items (above ++ own ∷ [])) ≡ named_in (path_items above) + named_in own.items = ap named_in same ∙ named-append (path_items above) own.items in
    record {
      sound = record {
        name = subst (λ s. is_name s ≡ true) (sym (name-last above own)) sound.name;
        items = subst (All IsSoundItem) (sym same) (All-append IsSoundItem (path_items above) own.items items (All-from_recursion IsSoundItem own.items sound.items));
        few = omega (arith, count, few);
      };
      named = count;
    }

-- ---- the aliases below a node

abbrev IsSoundAlias : AliasPath → Type 0
IsSoundAlias a = IsSoundPath (alias_path a)

sound_of_leaf : (k : ℕ) (path : List Own) (kids : Nodes) → All IsSoundItem (path_items path) → AreSound kids → HaveFew (named_in (path_items path)) kids → All IsSoundAlias (leaf_aliases k path kids)
sound_of_leaf k path no_nodes items sound few = All-nil IsSoundAlias
sound_of_leaf k path (more (node own kids) ns) items sound few = go own.kind (gone_on path own items sound.0.0 few.0.0).sound (sound_of_leaf k path ns items sound.1 few.1)
  where
    go : (kind : Kind) → IsSoundPath (path ++ own ∷ []) → All IsSoundAlias (leaf_aliases k path ns) → All IsSoundAlias (with_alias kind (record { leaf = k; above = path; own = own }) (leaf_aliases k path ns))
    go Alias one rest = All-cons IsSoundAlias (record { leaf = k; above = path; own = own }) (leaf_aliases k path ns) one rest
    go Set one rest = rest
    go Group one rest = rest
    go Leaf one rest = rest
    go Instance one rest = rest

sound_at : (kind : Kind) (own below : List AliasPath) → All IsSoundAlias own → All IsSoundAlias below → All IsSoundAlias (aliases_at kind own below)
sound_at Leaf own below here there = here
sound_at Set own below here there = there
sound_at Group own below here there = there
sound_at Alias own below here there = All-nil IsSoundAlias
sound_at Instance own below here there = All-nil IsSoundAlias

mutual
  sound_from : (above : List Own) (k : ℕ) (n : Node) → All IsSoundItem (path_items above) → IsSound n → HasFew (named_in (path_items above)) n → All IsSoundAlias (aliases_from above k n)
  sound_from above k (node own kids) items is few =
      let path : List Own = above ++ own ∷ [] in
      let on = gone_on above own items is.0 few.0 in
      let few_kids = subst (λ n. HaveFew n kids) (sym on.named) few.1 in
      sound_at own.kind (leaf_aliases k path kids) (aliases_among path k kids) (sound_of_leaf k path kids on.sound.items is.1 few_kids) (sound_among path k kids on.sound.items is.1 few_kids)

  sound_among : (above : List Own) (k : ℕ) (ns : Nodes) → All IsSoundItem (path_items above) → AreSound ns → HaveFew (named_in (path_items above)) ns → All IsSoundAlias (aliases_among above k ns)
  sound_among above k no_nodes items are few = All-nil IsSoundAlias
  sound_among above k (more n ns) items are few =
      let next : ℕ = k + length (paths_from above n) in
      All-append IsSoundAlias (aliases_from above k n) (aliases_among above next ns) (sound_from above k n items are.0 few.0) (sound_among above next ns items are.1 few.1)

pub aliases_are_sound : AliasesAreSound
aliases_are_sound isa held d tree counts e = record {
  few = read_aliases isa (root d) (from_held held) counts tree refl (sym (answers-gives (instructions isa (root d)) (from_held held)) ∙ e);
  each = All-map IsSoundPath alias_path (aliases_in tree) (sound_from [] 0 tree (All-nil IsSoundItem) (read_shaped isa (root d) (from_held held) counts tree (sym (answers-gives (instructions isa (root d)) (from_held held)) ∙ e)).sound (read_few isa (root d) (from_held held) counts tree (sym (answers-gives (instructions isa (root d)) (from_held held)) ∙ e)));
  below = aliases_are_below_leaves tree;
}
