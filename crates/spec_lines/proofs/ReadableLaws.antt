-- The leaves and aliases of documents without faults have lines that can be read back.
use Rattle.std.proofs.Common.{◌≡◌, ◌≢◌, sym, subst, ℕ, ◌+◌, ◌≤◌, List, [], ◌∷◌, length, Bool, true, false, not, ◌||◌, cond, Option, Some, None, is_some, bytes_eq, codes, All, arith}
use Rattle.std.specs.Prelude.{count_by, IfSome}
use Rattle.std.specs.List.{list_any}
use Rattle.std.proofs.lemmas.Bool.{and_parts}
use Rattle.std.proofs.lemmas.List.Elements.{All-nil, All-cons, All-head, All-tail, All-filter, All-weaker}
use Rattle.std.proofs.lemmas.List.Sums.{sum_by-cons, length-filter, count_by-le-length}
use Rattle.std.proofs.lemmas.Slice.Eq.{bytes_eq-Decides}
use Rattle.spec_bits.specs.Item.{Item}
use Rattle.spec_instructions.specs.Name.{is_name}
use Rattle.spec_instructions.specs.Encodeset.{is_field_name}
use Rattle.spec_instructions.specs.Paths.{path_items}
use Rattle.spec_instructions.specs.Tree.{Own}
use Rattle.spec_instructions.specs.Aliases.{alias_paths}
use Rattle.spec_instructions.specs.Shape.{IsSoundItem}
use Rattle.spec_instructions.specs.Fields.{is_named, visible_item, visible, fields, IsWithinWord}
use Rattle.spec_instructions.specs.SoundPaths.{IsSoundPath}
use Rattle.spec_encoding.specs.PathLayout.{is_shown}
use Rattle.spec_encoding.specs.Encoding.{IsFormed}
use Rattle.spec_lines.specs.ReadBack.{IsNamed, IsReadablePath, SoundPathsAreReadable, SoundMachinesAreReadable}

abbrev IsFieldItem : Item → Type 0
IsFieldItem it = IfSome it.name (λ name. is_field_name name ≡ true)

-- a name that a field may have is not `rest`
not_rest : (name : List ℕ) → is_field_name name ≡ true → name ≢ codes "rest"
not_rest name h same =
    let other = (and_parts (is_name name) (not (bytes_eq name (codes "rest") || bytes_eq name (codes "sys"))) h).1 in
    let is : bytes_eq name (codes "rest") ≡ true = (bytes_eq-Decides name (codes "rest")).1 same in
    go (bytes_eq name (codes "rest")) (bytes_eq name (codes "sys")) is other
  where
    go : (a b : Bool) → a ≡ true → not (a || b) ≡ true → ⊥
    go true b e n = cc
    go false b e n = cc

visible_named : (items : List Item) → All IsFieldItem items → All IsNamed (visible items)
visible_named [] each = All-nil IsNamed
visible_named (it ∷ items) each = go it.name (All-head IsFieldItem it items each) (visible_named items (All-tail IsFieldItem it items each))
  where
    go : (name : Option (List ℕ)) → IfSome name (λ name. is_field_name name ≡ true) → All IsNamed (visible items) → All IsNamed (visible_item it name items (visible items))
    go None h later = later
    go (Some name) h later = put (list_any (is_named name) items) later
      where
        put : (v : Bool) → All IsNamed (visible items) → All IsNamed (cond v (visible items) (record { name = name; start = it.start; width = length it.digits } ∷ visible items))
        put true later = later
        put false later = All-cons IsNamed _ (visible items) (record { name = (and_parts (is_name name) _ h).0; other = not_rest name h }) later

visible_few : (items : List Item) → length (visible items) ≤ count_by (λ it. is_some it.name) items
visible_few [] = omega arith
visible_few (it ∷ items) = subst (λ n. length (visible (it ∷ items)) ≤ n) (sym (sum_by-cons (λ (i : Item). cond (is_some i.name) 1 0) it items)) (go it.name (visible_few items))
  where
    go : (name : Option (List ℕ)) → length (visible items) ≤ count_by (λ it. is_some it.name) items → length (visible_item it name items (visible items)) ≤ cond (is_some name) 1 0 + count_by (λ it. is_some it.name) items
    go None h = omega arith
    go (Some name) h = put (list_any (is_named name) items) h
      where
        put : (v : Bool) → length (visible items) ≤ count_by (λ it. is_some it.name) items → length (cond v (visible items) (record { name = name; start = it.start; width = length it.digits } ∷ visible items)) ≤ 1 + count_by (λ it. is_some it.name) items
        put true h = omega arith
        put false h = omega arith

pub sound_paths_are_readable : SoundPathsAreReadable
sound_paths_are_readable path h = record {
  label = h.name;
  few = omega (arith, length-filter (is_shown path) (fields path), count_by-le-length (is_shown path) (fields path), visible_few (path_items path), h.few);
  fields = All-filter (is_shown path) IsNamed (fields path) (visible_named (path_items path) (All-weaker IsSoundItem IsFieldItem (λ it is. is.name) (path_items path) h.items));
}

sound-formed : (path : List Own) → IsSoundPath path → IsFormed path
sound-formed path sound = All-weaker IsSoundItem IsWithinWord (λ it is. is.fits) (path_items path) sound.items

pub sound_machines_are_readable : SoundMachinesAreReadable
sound_machines_are_readable machine leaves aliases = record {
  few = leaves.few;
  few_aliases = aliases.few;
  formed = record {
    paths = All-weaker IsSoundPath IsFormed sound-formed machine.paths leaves.each;
    aliases = All-weaker IsSoundPath IsFormed sound-formed (alias_paths machine.aliases) aliases.each;
    below = aliases.below;
  };
  paths = All-weaker IsSoundPath IsReadablePath sound_paths_are_readable machine.paths leaves.each;
  aliases = All-weaker IsSoundPath IsReadablePath sound_paths_are_readable (alias_paths machine.aliases) aliases.each;
}
