-- The fields that are visible at a node, by the numbers of their names, gathered from the deepest item up.
use Rattle.std.specs.Prelude.{ℕ, Bool, ◌==◌, List, [], ◌∷◌, ◌++◌, length, reverse, Option, Some, None, if◌then◌else◌}
use Rattle.std.specs.List.{list_any}
use Rattle.mrs_arena.specs.Flat.{FlatItem, FlatNode}
use Rattle.insn_tree.specs.Upward.{gathered}

-- a field: the number of its name, its lowest bit and how many bits it has
pub record FlatField : Type 0 where
  pub name : ℕ
  pub start : ℕ
  pub width : ℕ

abbrev pub has_field_name : ℕ → FlatField → Bool
has_field_name name field = field.name == name

abbrev pub field_named : ℕ → FlatItem → FlatField
field_named name it = record { name = name; start = it.start; width = length it.digits }

-- an item's field behind those of the deeper items, if it has a name that none of those has
abbrev pub with_named : FlatItem → Option ℕ → List FlatField → List FlatField
with_named it None deeper = deeper
with_named it (Some name) deeper = if list_any (has_field_name name) deeper then deeper else deeper ++ field_named name it ∷ []

abbrev pub with_field : FlatItem → List FlatField → List FlatField
with_field it deeper = with_named it it.name deeper

-- the fields from the root down
abbrev pub fields_at : List FlatNode → ℕ → List FlatField
fields_at nodes n = reverse (gathered with_field nodes n [])
