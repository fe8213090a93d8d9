-- The items along a path, and the fields that are visible behind them.
use Rattle.std.specs.Prelude.{ℕ, List, [], ◌∷◌, length, map, flat_map, reverse, Option, Some, None, option_map, if◌then◌else◌}
use Rattle.std.specs.Option.{option_or}
use Rattle.spec_bits.specs.Item.{Item}
use Rattle.spec_expressions.specs.Scope.{Field}
use Rattle.spec_instructions.specs.Fields.{visible}
use Rattle.mrs_arena.specs.Flat.{FlatItem, FlatNode, with_text}
use Rattle.mrs_arena.specs.Paths.{ancestors}
use Rattle.mrs_arena.specs.Nodes.{parents_of, node_items, has_name_id}

-- the items of the nodes from the root down to node n
abbrev pub items_to : List FlatNode → ℕ → List FlatItem
items_to nodes n = flat_map (node_items nodes) (reverse (ancestors (parents_of nodes) n))

-- the last item of a name, which along a path is the deepest one
abbrev pub last_named : ℕ → List FlatItem → Option FlatItem
last_named name [] = None
last_named name (it ∷ items) = option_or (last_named name items) (if has_name_id name it then Some it else None)

-- the lowest bit of an item, and how many bits it has
abbrev pub bounds_of : FlatItem → ℕ × ℕ
bounds_of it = (it.start, length it.digits)

-- the lowest bit of a field, and how many bits it has
abbrev pub field_bounds : Field → ℕ × ℕ
field_bounds f = (f.start, f.width)

-- the fields that are visible behind items, by these texts of names
abbrev pub item_by : (ℕ → List ℕ) → FlatItem → Item
item_by text it = with_text (option_map text it.name) it

abbrev pub fields_by : (ℕ → List ℕ) → List FlatItem → List Field
fields_by text items = visible (map (item_by text) items)
