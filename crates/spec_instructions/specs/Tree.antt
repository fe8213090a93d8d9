-- The tree of an Instructions document: nodes with what each says of itself.
use Rattle.std.specs.Prelude.{ℕ, List, [], Option, None}
use Rattle.spec_bits.specs.Item.{Item}
use Rattle.spec_expressions.specs.Expression.{Expr}
use Rattle.spec_instructions.specs.Kind.{Kind}

-- what a node says of itself. An absent condition is true, and an alias without a preference is never preferred
pub record Own : Type 0 where
  pub kind : Kind
  pub name : List ℕ
  pub items : List Item
  pub condition : Option Expr
  pub preferred : Option Expr

-- a node that says no more than its kind and its name
abbrev pub bare : Kind → List ℕ → Own
bare kind name = record { kind = kind; name = name; items = []; condition = None; preferred = None }

mutual
  pub data Node : Type 0 where
    node : Own → Nodes → Node

  pub data Nodes : Type 0 where
    no_nodes : Nodes
    more : Node → Nodes → Nodes
