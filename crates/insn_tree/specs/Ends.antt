-- The names of the nodes that paths end at, and those that share them.
use Rattle.std.specs.Prelude.{ℕ, ◌==◌, Bool, nat_lt, List, map, count_by, slice_index_or}
use Rattle.mrs_arena.specs.Flat.{FlatNode}

-- the number of a node's name
abbrev pub name_at : List FlatNode → ℕ → ℕ
name_at nodes n = slice_index_or (map (λ node. node.name) nodes) n 0

-- those of the nodes that paths end at
abbrev pub end_names : List FlatNode → List ℕ → List ℕ
end_names nodes ends = map (name_at nodes) ends

-- how often a name stands among some, and whether that is more than once
abbrev pub sakes : List ℕ → ℕ → ℕ
sakes names name = count_by (λ other. other == name) names

abbrev pub is_shared : List ℕ → ℕ → Bool
is_shared names name = nat_lt 1 (sakes names name)
