-- What a node says of itself, stored as numbers and lists that give it back, by which a struct of code may stand for it.
use Rattle.std.specs.Prelude.{◌≡◌, refl, ℕ, List, [], ◌∷◌, Bool, Option, slice_index_or}
use Rattle.std.specs.Coded.{Coded, code_by, coded_ℕ, coded_bool, coded_list, coded_option, coded×}
use Rattle.spec_bits.specs.Pattern.{Digit}
use Rattle.spec_bits.specs.Item.{Item}
use Rattle.spec_expressions.specs.Expression.{Expr}
use Rattle.spec_expressions.specs.Codes.{digit_code, expr_code}
use Rattle.spec_instructions.specs.Kind.{Kind, Set, Group, Leaf, Alias, Instance}
use Rattle.spec_instructions.specs.Tree.{Own}

abbrev kind_number : Kind → ℕ
kind_number Set = 0
kind_number Group = 1
kind_number Leaf = 2
kind_number Alias = 3
kind_number Instance = 4

abbrev kind_of : ℕ → Kind
kind_of n = slice_index_or (Set ∷ Group ∷ Leaf ∷ Alias ∷ Instance ∷ []) n Set

pub kind_back : (kind : Kind) → kind_of (kind_number kind) ≡ kind
kind_back Set = refl
kind_back Group = refl
kind_back Leaf = refl
kind_back Alias = refl
kind_back Instance = refl

abbrev pub kind_code : Coded Kind
kind_code = code_by ℕ coded_ℕ kind_number kind_of kind_back

abbrev pub text_code : Coded (List ℕ)
text_code = coded_list coded_ℕ

abbrev pub item_code : Coded Item
item_code =
    code_by (Option (List ℕ) × (ℕ × (List Digit × List Bool)))
    (coded× (coded_option text_code) (coded× coded_ℕ (coded× (coded_list digit_code) (coded_list coded_bool))))
    (λ it. (it.name, (it.start, (it.digits, it.marks))))
    (λ p. record { name = p.0; start = p.1.0; digits = p.1.1.0; marks = p.1.1.1 })
    (λ _. refl)

abbrev pub own_code : Coded Own
own_code =
    code_by (Kind × (List ℕ × (List Item × (Option Expr × Option Expr))))
    (coded× kind_code (coded× text_code (coded× (coded_list item_code) (coded× (coded_option (expr_code text_code)) (coded_option (expr_code text_code))))))
    (λ own. (own.kind, (own.name, (own.items, (own.condition, own.preferred)))))
    (λ p. record { kind = p.0; name = p.1.0; items = p.1.1.0; condition = p.1.1.1.0; preferred = p.1.1.1.1 })
    (λ _. refl)
