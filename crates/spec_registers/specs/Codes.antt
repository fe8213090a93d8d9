-- Registers and pieces, stored as lists and numbers that give them back, by which structs of code may stand for them.
use Rattle.std.specs.Prelude.{◌≡◌, refl, ℕ, List, Option, Bool, true, false}
use Rattle.std.specs.Coded.{Coded, code_by, coded_ℕ, coded_bool, coded_list, coded_option, coded×}
use Rattle.spec_bits.specs.Pattern.{Digit}
use Rattle.spec_expressions.specs.Expression.{ExprOf}
use Rattle.spec_expressions.specs.Codes.{digit_code, expr_code}
use Rattle.spec_instructions.specs.Encodeset.{Range}
use Rattle.spec_registers.specs.Registers.{FieldOf, FieldsetOf, Direction, Read, Write, EntryOf, RegisterOf, RegistersOf}
use Rattle.spec_registers.specs.View.{PieceOf}

abbrev pub range_code : Coded Range
range_code = code_by (ℕ × ℕ) (coded× coded_ℕ coded_ℕ) (λ r. (r.start, r.width)) (λ p. record { start = p.0; width = p.1 }) (λ _. refl)

abbrev is_read : Direction → Bool
is_read Read = true
is_read Write = false

abbrev direction_of : Bool → Direction
direction_of true = Read
direction_of false = Write

pub direction_back : (d : Direction) → direction_of (is_read d) ≡ d
direction_back Read = refl
direction_back Write = refl

abbrev pub direction_code : Coded Direction
direction_code = code_by Bool coded_bool is_read direction_of direction_back

module _ {N : Type 0} where
  abbrev pub field_code : Coded N → Coded (FieldOf N)
  field_code names =
      code_by (N × (List Range × Option (ExprOf N))) (coded× names (coded× (coded_list range_code) (coded_option (expr_code names))))
      (λ x. (x.name, (x.ranges, x.condition))) (λ p. record { name = p.0; ranges = p.1.0; condition = p.1.1 }) (λ _. refl)

  abbrev pub fieldset_code : Coded N → Coded (FieldsetOf N)
  fieldset_code names =
      code_by (ℕ × (Option (ExprOf N) × List (FieldOf N))) (coded× coded_ℕ (coded× (coded_option (expr_code names)) (coded_list (field_code names))))
      (λ x. (x.width, (x.condition, x.fields))) (λ p. record { width = p.0; condition = p.1.0; fields = p.1.1 }) (λ _. refl)

  abbrev pub entry_code : Coded N → Coded (EntryOf N)
  entry_code names =
      code_by (Direction × (N × (Option (ExprOf N) × List Digit))) (coded× direction_code (coded× names (coded× (coded_option (expr_code names)) (coded_list digit_code))))
      (λ x. (x.direction, (x.name, (x.condition, x.key)))) (λ p. record { direction = p.0; name = p.1.0; condition = p.1.1.0; key = p.1.1.1 }) (λ _. refl)

  abbrev pub register_code : Coded N → Coded (RegisterOf N)
  register_code names =
      code_by (N × (Option (ExprOf N) × (List (FieldsetOf N) × List (EntryOf N)))) (coded× names (coded× (coded_option (expr_code names)) (coded× (coded_list (fieldset_code names)) (coded_list (entry_code names)))))
      (λ x. (x.name, (x.condition, (x.fieldsets, x.entries)))) (λ p. record { name = p.0; condition = p.1.0; fieldsets = p.1.1.0; entries = p.1.1.1 }) (λ _. refl)

  abbrev pub registers_code : Coded N → Coded (RegistersOf N)
  registers_code names =
      code_by (List (RegisterOf N) × (ℕ × (ℕ × ℕ))) (coded× (coded_list (register_code names)) (coded× coded_ℕ (coded× coded_ℕ coded_ℕ)))
      (λ x. (x.registers, (x.arrays, (x.blocks, x.passed)))) (λ p. record { registers = p.0; arrays = p.1.0; blocks = p.1.1.0; passed = p.1.1.1 }) (λ _. refl)

  abbrev pub piece_code : Coded N → Coded (PieceOf N)
  piece_code names =
      code_by (Option N × (ℕ × (ℕ × ℕ))) (coded× (coded_option names) (coded× coded_ℕ (coded× coded_ℕ coded_ℕ)))
      (λ x. (x.name, (x.start, (x.width, x.value)))) (λ p. record { name = p.0; start = p.1.0; width = p.1.1.0; value = p.1.1.1 }) (λ _. refl)
