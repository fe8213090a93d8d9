-- What a walk has put so far: the names that are held, and nodes and expressions with the texts of their names.
use Rattle.std.specs.Prelude.{ℕ, ◌-◌, ◌≤◌, Bool, true, false, List, [], ◌++◌, length, map, flat_map, count_by, slice_index_or, Option, Some, None, ⊤}
use Rattle.spec_bits.specs.Item.{Item}
use Rattle.spec_expressions.specs.Expression.{Expr}
use Rattle.spec_instructions.specs.Encodeset.{named_in}
use Rattle.spec_walk.specs.Limits.{Counts, expression_limit}
use Rattle.spec_walk.specs.Walk.{Walk, Done}
use Rattle.spec_instructions.specs.Kind as kind
use Rattle.spec_instructions.specs.Kind.{Kind}
use Rattle.spec_instructions.specs.Tree.{Own}
use Rattle.mrs_arena.specs.Paths.{ancestors}
use Rattle.mrs_arena.specs.Nodes.{at_last}
use Rattle.mrs_arena.specs.Flat.{Built}
use Rattle.mrs_arena.specs.Placed.{Placed, placed_node, expr_of, AreHeld, AreHeldExprs}

pub record Drafted : Type 0 where
  pub names : List (List ℕ)
  pub nodes : List Placed
  -- the expression of each number, and all parts of lists of expressions
  pub exprs : List Expr
  pub parts : List ℕ

-- what a builder has taken, with the texts of the names
abbrev pub drafted : List (List ℕ) → Built → Drafted
drafted names b = record { names = names; nodes = map (placed_node names) b.nodes; exprs = map (expr_of names) b.exprs; parts = b.parts }

-- each name is held; there are no more expressions than there may be, and no more parts of lists than expressions
pub record IsHeld (names : List (List ℕ)) (b : Built) : Type 0 where
  pub nodes : AreHeld names b.nodes
  pub exprs : AreHeldExprs names b.exprs
  pub few : length b.exprs ≤ expression_limit
  pub few_parts : length b.parts ≤ length b.exprs

-- a walk that meets nothing
abbrev pub nothing : Walk ⊤
nothing = Done tt

-- how many nodes of a kind there are
abbrev pub is_leaf_kind : Kind → Bool
is_leaf_kind kind.Set = false
is_leaf_kind kind.Group = false
is_leaf_kind kind.Leaf = true
is_leaf_kind kind.Alias = false
is_leaf_kind kind.Instance = false

abbrev pub is_alias_kind : Kind → Bool
is_alias_kind kind.Set = false
is_alias_kind kind.Group = false
is_alias_kind kind.Leaf = false
is_alias_kind kind.Alias = true
is_alias_kind kind.Instance = false

-- the counts of a walk that has put so much
abbrev pub counts : Drafted → Counts
counts d = record { held = d.names; nodes = length d.nodes; leaves = count_by (λ p. is_leaf_kind p.own.kind) d.nodes; aliases = count_by (λ p. is_alias_kind p.own.kind) d.nodes; expressions = length d.exprs }

-- ---- nodes

abbrev pub parents : List Placed → List (Option ℕ)
parents nodes = map (λ p. p.parent) nodes

abbrev pub items_at : List Placed → ℕ → List Item
items_at nodes n = slice_index_or (map (λ p. p.own.items) nodes) n []

abbrev pub last_items : List Placed → List Item
last_items nodes = items_at nodes (length nodes - 1)

-- how many named items stand on the path of node n
abbrev pub named_at : List Placed → ℕ → ℕ
named_at nodes n = named_in (flat_map (items_at nodes) (ancestors (parents nodes) n))

abbrev pub last_named : List Placed → ℕ
last_named nodes = named_at nodes (length nodes - 1)

-- what a node says of itself, with more items
abbrev pub more_items : List Item → Own → Own
more_items items own = record own { items = own.items ++ items }

-- the nodes with a condition at the last of them, if there is one
abbrev pub with_condition : Option Expr → List Placed → List Placed
with_condition None nodes = nodes
with_condition (Some e) nodes = at_last (λ p. record p { own = record p.own { condition = Some e } }) nodes

-- the nodes with a preference at the last of them, if there is one
abbrev pub with_preferred : Option Expr → List Placed → List Placed
with_preferred None nodes = nodes
with_preferred (Some e) nodes = at_last (λ p. record p { own = record p.own { preferred = Some e } }) nodes

-- the nodes with more items at the last of them
abbrev pub with_items : List Item → List Placed → List Placed
with_items items nodes = at_last (λ p. record p { own = more_items items p.own }) nodes
