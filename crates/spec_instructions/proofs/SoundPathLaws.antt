-- The paths of an accepted document are sound, and no more than there may be.
use Rattle.std.proofs.Common.{◌≡◌, ◌∙◌, sym, ap, refl, subst, ◌+◌, true, List, [], ◌∷◌, ◌++◌, All, Result, Ok, Err, arith, append-nil, append_assoc}
use Rattle.std.proofs.lemmas.List.Elements.{All-from_recursion, All-nil, All-cons, All-append}
use Rattle.spec_walk.specs.Event.{Fault}
use Rattle.spec_walk.specs.Limits.{Counts, from_held, ◌>>=◌}
use Rattle.spec_walk.specs.Spot.{root}
use Rattle.spec_instructions.specs.Name.{is_name}
use Rattle.spec_instructions.specs.Kind.{Kind, Set, Group, Leaf, Alias, Instance}
use Rattle.spec_instructions.specs.Encodeset.{named_in}
use Rattle.spec_instructions.specs.Tree.{Own, Node, node, Nodes, no_nodes, more}
use Rattle.spec_instructions.specs.Shape.{IsSoundItem, IsSound, AreSound}
use Rattle.spec_instructions.specs.Paths.{paths_at, paths_from, paths_among, path_name, path_items}
use Rattle.spec_walk.specs.Walk.{gives}
use Rattle.spec_walk.proofs.FirstFaultLaws.{answers-gives}
use Rattle.spec_instructions.specs.Walk.{instructions}
use Rattle.spec_instructions.specs.Reading.{tree_read}
use Rattle.spec_instructions.specs.SoundPaths.{IsSoundPath, AreSoundPaths, PathsAreSound}
use Rattle.spec_instructions.proofs.ShapeLaws.{read_shaped}
use Rattle.spec_instructions.proofs.NamedCounts.{named-append, HasFew, HaveFew, read_few}
use Rattle.spec_instructions.proofs.LeafCounts.{read_leaves}

-- ---- a path with one node more

items-last : (above : List Own) (own : Own) → path_items (above ++ own ∷ []) ≡ path_items above ++ own.items
items-last [] own = append-nil own.items
items-last (first ∷ above) own = ap (λ items. first.items ++ items) (items-last above own) ∙ sym (append_assoc first.items (path_items above) own.items)

name-last : (above : List Own) (own : Own) → path_name (above ++ own ∷ []) ≡ own.name
name-last [] own = refl
name-last (first ∷ []) own = refl
name-last (first ∷ next ∷ above) own = name-last (next ∷ above) own

-- ---- the paths below a node

at_kind : (k : Kind) (path : List Own) (below : List (List Own)) → IsSoundPath path → All IsSoundPath below → All IsSoundPath (paths_at k path below)
at_kind Leaf path below one all = All-cons IsSoundPath path [] one (All-nil IsSoundPath)
at_kind Set path below one all = all
at_kind Group path below one all = all
at_kind Alias path below one all = All-nil IsSoundPath
at_kind Instance path below one all = All-nil IsSoundPath

mutual
  sound_from : (above : List Own) (n : Node) → All IsSoundItem (path_items above) → IsSound n → HasFew (named_in (path_items above)) n → All IsSoundPath (paths_from above n)
  sound_from above (node own kids) items is few =
      let path : List Own = above ++ own ∷ [] in
      let same = items-last above own in
      let all : All IsSoundItem (path_items path) = subst (All IsSoundItem) (sym same) (All-append IsSoundItem (path_items above) own.items items (All-from_recursion IsSoundItem own.items is.0.items)) in
      let count : named_in (path_items path) ≡ named_in (path_items above) + named_in own.items = ap named_in same ∙ named-append (path_items above) own.items in
      let one : IsSoundPath path = record { name = subst (λ s. is_name s ≡ true) (sym (name-last above own)) is.0.name; items = all; few = omega (arith, count, few.0) } in
      at_kind own.kind path (paths_among path kids) one (sound_among path kids all is.1 (subst (λ n. HaveFew n kids) (sym count) few.1))

  sound_among : (above : List Own) (ns : Nodes) → All IsSoundItem (path_items above) → AreSound ns → HaveFew (named_in (path_items above)) ns → All IsSoundPath (paths_among above ns)
  sound_among above no_nodes items are few = All-nil IsSoundPath
  sound_among above (more n ns) items are few =
      All-append IsSoundPath (paths_from above n) (paths_among above ns) (sound_from above n items are.0 few.0) (sound_among above ns items are.1 few.1)

pub paths_are_sound : PathsAreSound
paths_are_sound isa held d paths e = go (tree_read isa held d) refl e
  where
    go : (r : Result (Node × Counts) Fault) → tree_read isa held d ≡ r → r >>= (λ read. Ok (paths_from [] read.0)) ≡ Ok paths → AreSoundPaths paths
    go (Err f) is e = absurd cc
    go (Ok read) is e =
        let same : paths_from [] read.0 ≡ paths = cc in
        let walked : gives (instructions isa (root d)) (from_held held) ≡ Ok read = sym (answers-gives (instructions isa (root d)) (from_held held)) ∙ is in
        subst AreSoundPaths same (record {
          few = read_leaves isa (root d) (from_held held) read.1 read.0 refl walked;
          each = sound_from [] read.0 (All-nil IsSoundItem) (read_shaped isa (root d) (from_held held) read.1 read.0 walked).sound (read_few isa (root d) (from_held held) read.1 read.0 walked);
        })
