-- What this crate's items and nodes stand for.
use Rattle.std.specs.Prelude.{ℕ, List, option_map}
use Rattle.spec_expressions.specs.Expression.{ExprOf}
use Rattle.bit_pattern.specs.Marks.{marks_of}
use Rattle.bit_pattern.specs.Views.{digits_of}
use Rattle.mrs_arena.specs.Flat.{FlatItem, FlatNode, ArenaNode}
use Rattle.mrs_arena.specs.Expressions.{expr_at}
use Rattle.mrs_arena.specs.declared.item.Item.{Item}

abbrev pub flat_item : Item → FlatItem
flat_item it = record { name = option_map (λ name. name.0) it.name; start = it.start; digits = digits_of it.pattern; marks = marks_of it.pattern.width it.should }

-- what was put as a node that is read back, by what the numbers of its expressions stand for
abbrev pub node_put : List (ExprOf ℕ) → ArenaNode → FlatNode
node_put exprs node =
    record {
      kind = node.kind;
      name = node.name;
      parent = node.parent;
      items = node.items;
      condition = option_map (expr_at exprs) node.condition;
      preferred = option_map (expr_at exprs) node.preferred;
    }
