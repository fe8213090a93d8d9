-- What a draft stands for, stored as lists that give it back.
use Rattle.std.specs.Prelude.{refl, ℕ, List}
use Rattle.std.specs.Coded.{Coded, code_by, coded_ℕ, coded_list, coded×}
use Rattle.spec_expressions.specs.Expression.{Expr}
use Rattle.spec_expressions.specs.Codes.{expr_code}
use Rattle.spec_instructions.specs.Codes.{text_code}
use Rattle.mrs_arena.specs.Placed.{Placed}
use Rattle.mrs_arena.specs.Codes.{placed_code}
use Rattle.schema_draft.specs.Drafted.{Drafted}

abbrev pub drafted_code : Coded Drafted
drafted_code =
    code_by (List (List ℕ) × (List Placed × (List Expr × List ℕ)))
    (coded× (coded_list text_code) (coded× (coded_list placed_code) (coded× (coded_list (expr_code text_code)) (coded_list coded_ℕ))))
    (λ d. (d.names, (d.nodes, (d.exprs, d.parts))))
    (λ p. record { names = p.0; nodes = p.1.0; exprs = p.1.1.0; parts = p.1.1.1 })
    (λ _. refl)
