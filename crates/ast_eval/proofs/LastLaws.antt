-- The last item of a name: in a list, and along a path.
use Rattle.std.proofs.Common.{◌≡◌, ◌∙◌, refl, sym, ap, ℕ, cond, List, [], ◌∷◌, ◌++◌, map, reverse, slice_get, Option, Some, None, option_map}
use Rattle.std.specs.Prelude.{flat_map}
use Rattle.std.specs.Option.{option_or}
use Rattle.bit_pattern.specs.declared.range.Range.{Range}
use Rattle.mrs_arena.specs.declared.item.Item.{Item}
use Rattle.mrs_arena.specs.Flat.{FlatItem, FlatNode}
use Rattle.mrs_arena.specs.Views.{flat_item}
use Rattle.mrs_arena.specs.Nodes.{node_items, has_name_id}
use Rattle.ast_eval.specs.Fields.{last_named, bounds_of}
use Rattle.ast_eval.specs.EnvView.{range_bounds}
use Rattle.ast_eval.proofs.PathLaws.{items_turned, items-at}

pub or_none : {X : Type 0} (o : Option X) → option_or o None ≡ o
or_none None = refl
or_none (Some x) = refl

or_three : {X : Type 0} (a b c : Option X) → option_or (option_or a b) c ≡ option_or a (option_or b c)
or_three None b c = refl
or_three (Some x) b c = refl

pub last_named-append : (name : ℕ) (xs ys : List FlatItem) → last_named name (xs ++ ys) ≡ option_or (last_named name ys) (last_named name xs)
last_named-append name [] ys = sym (or_none (last_named name ys))
last_named-append name (x ∷ xs) ys =
    ap (λ o. option_or o (cond (has_name_id name x) (Some x) None)) (last_named-append name xs ys)
    ∙ or_three (last_named name ys) (last_named name xs) (cond (has_name_id name x) (Some x) None)

-- ---- in a list, from its front

abbrev pub bounds_in : ℕ → List Item → Option (ℕ × ℕ)
bounds_in name items = option_map bounds_of (last_named name (map flat_item items))

-- the bounds of the last item of the name among those that are left, or else of the one that was found
abbrev pub bounds_left : ℕ → List Item → Option Range → Option (ℕ × ℕ)
bounds_left name items found = option_or (bounds_in name items) (option_map range_bounds found)

-- ---- along a path, from its end

module _ (nodes : List FlatNode) where
  -- the bounds of the last item of a name along a path that is given from its end up
  abbrev pub bounds_up : ℕ → List ℕ → Option (ℕ × ℕ)
  bounds_up name path = option_map bounds_of (last_named name (flat_map (node_items nodes) (reverse path)))

  turned : (name n : ℕ) (path : List ℕ) → bounds_up name (n ∷ path) ≡ option_or (option_map bounds_of (last_named name (node_items nodes n))) (bounds_up name path)
  turned name n path = ap (λ items. option_map bounds_of (last_named name items)) (items_turned nodes n path) ∙ ap (option_map bounds_of) (last_named-append name (flat_map (node_items nodes) (reverse path)) (node_items nodes n)) ∙ go (last_named name (node_items nodes n))
    where
      go : (o : Option FlatItem) → option_map bounds_of (option_or o (last_named name (flat_map (node_items nodes) (reverse path)))) ≡ option_or (option_map bounds_of o) (bounds_up name path)
      go None = refl
      go (Some it) = refl

-- the bounds up a path, by what a node gives
pub bounds_up-step : (nodes : List FlatNode) (name n : ℕ) (path rest : List ℕ) (node : FlatNode) (items : List FlatItem) (range : Option Range)
    → path ≡ n ∷ rest → slice_get nodes n ≡ Some node → items ≡ node.items → option_map range_bounds range ≡ option_map bounds_of (last_named name items)
    → bounds_up nodes name path ≡ option_or (option_map range_bounds range) (bounds_up nodes name rest)
bounds_up-step nodes name n path rest node items range goes at has is =
    ap (bounds_up nodes name) goes ∙ turned nodes name n rest
    ∙ ap (λ o. option_or o (bounds_up nodes name rest)) (ap (λ its. option_map bounds_of (last_named name its)) (items-at nodes n node at ∙ sym has) ∙ sym is)
