-- Conditions along the paths of an arena.
use Rattle.std.specs.Prelude.{ℕ, Bool, false, List, [], is_some, option_map, unwrap_or, slice_get}
use Rattle.std.specs.List.{list_any}
use Rattle.spec_expressions.specs.Truth.{Truth}
use Rattle.spec_expressions.specs.Scope.{Configuration}
use Rattle.spec_decode.specs.Verdict.{conditions_from}
use Rattle.mrs_arena.specs.Flat.{FlatNode}
use Rattle.mrs_arena.specs.Paths.{ancestors}
use Rattle.mrs_arena.specs.Nodes.{parents_of}
use Rattle.mrs_arena.specs.Placed.{path_to}
pub use Rattle.mrs_arena.specs.AliasPaths.{path_above}

-- node n has a condition, and so has a node on the path up from it
abbrev pub has_condition : List FlatNode → ℕ → Bool
has_condition nodes n = unwrap_or (option_map (λ node. is_some node.condition) (slice_get nodes n)) false

abbrev pub is_conditioned : List FlatNode → ℕ → Bool
is_conditioned nodes n = list_any (has_condition nodes) (ancestors (parents_of nodes) n)

-- the conditions of the nodes from the root down to node n, together
abbrev pub conditions_at : List (List ℕ) → List FlatNode → Configuration → ℕ → ℕ → Truth
conditions_at names nodes g w n = conditions_from [] (path_to names nodes n) g w
