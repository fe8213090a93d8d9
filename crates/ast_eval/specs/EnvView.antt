-- What a place in an arena stands for.
use Rattle.std.specs.Prelude.{ℕ, ◌<◌, List, [], length, Option, Some, None, IfSome}
use Rattle.bit_pattern.specs.declared.range.Range.{Range}
use Rattle.mrs_arena.specs.Flat.{FlatItem}
use Rattle.ast_eval.specs.declared.env.Place.{Place}
use Rattle.ast_eval.specs.Fields.{items_to}

-- the items of the nodes from the root down to a node; none where there is no node
abbrev pub items_at : Option Place → List FlatItem
items_at (Some place) = items_to place.arena.now.nodes place.node.0
items_at None = []

abbrev pub IsPlace : Option Place → Type 0
IsPlace place = IfSome place (λ p. p.node.0 < length p.arena.now.nodes)

-- where a range starts, and how many bits it has
abbrev pub range_bounds : Range → ℕ × ℕ
range_bounds r = (r.start, r.width)
