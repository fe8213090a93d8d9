-- What a tree keeps, stored as lists that give it back, by which a tree of code stands for it.
use Rattle.std.specs.Prelude.{ℕ, List, refl}
use Rattle.std.specs.Coded.{Coded, code_by, coded_ℕ, coded_list, coded×}
use Rattle.spec_expressions.specs.Expression.{ExprOf}
use Rattle.spec_expressions.specs.Codes.{expr_code}
use Rattle.mrs_arena.specs.Flat.{FlatNode}
use Rattle.mrs_arena.specs.Codes.{flat_node_code}
use Rattle.insn_tree.specs.Trees.{TreeParts}

abbrev pub tree_code : Coded TreeParts
tree_code =
    code_by (List FlatNode × (List (ExprOf ℕ) × (List (List ℕ × ℕ) × List (List ℕ × ℕ))))
    (coded× (coded_list flat_node_code) (coded× (coded_list (expr_code coded_ℕ)) (coded× (coded_list (coded× (coded_list coded_ℕ) coded_ℕ)) (coded_list (coded× (coded_list coded_ℕ) coded_ℕ)))))
    (λ t. (t.nodes, (t.exprs, (t.labels, t.alias_labels))))
    (λ p. record { nodes = p.0; exprs = p.1.0; labels = p.1.1.0; alias_labels = p.1.1.1 })
    (λ _. refl)
