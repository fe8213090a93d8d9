-- Worked values: whole conditions as documents have them, from their text to their truth.
use Rattle.std.specs.Prelude.{◌≡◌, ℕ, zero, suc, List, [], ◌∷◌, ◌++◌, map, true, false, Option, Some, None, Result, Err, is_some, option_map, option_and_then, codes, refl}
use Rattle.std.specs.Fmt.{digits}
use Rattle.serde_json.specs.Read.{read}
use Rattle.serde_json.proofs.OnLiterals.{serde_json_on_literals}
use Rattle.spec_walk.specs.Event.{Fault, WrongShape}
use Rattle.spec_walk.specs.Limits.{Counts, from_held}
use Rattle.spec_walk.specs.Walk as walk
use Rattle.spec_walk.specs.Walk.{gives}
use Rattle.spec_walk.specs.Spot.{root, optional}
use Rattle.spec_walk.specs.Descend.{elements_at}
use Rattle.spec_expressions.specs.Expression.{Expr}
use Rattle.spec_expressions.specs.Truth.{Truth, Yes, No, Open}
use Rattle.spec_expressions.specs.Scope.{Field, Flag, Configuration}
use Rattle.spec_expressions.specs.Value.{truth}
use Rattle.spec_expressions.specs.Reading.{Itself, reader, expression}

-- parameters that are on, and those that are off
abbrev states : List (List ℕ) → List (List ℕ) → Configuration
states on off = record { parameters = map (λ s. record { name = s; state = Flag true }) on ++ map (λ s. record { name = s; state = Flag false }) off; atoms = [] }

-- the truth of a node's member `condition`, which may be absent or null
abbrev condition_in : List ℕ → Option (Option Expr)
condition_in text = option_and_then (λ d. walk.value (optional (codes "condition") expression (root d))) (read text)

-- what a member gives, of which the value must be an expression, or an array of them
abbrev condition_given : List ℕ → Option (Result (Option Expr × Counts) Fault)
condition_given text = option_map (λ d. gives (optional (codes "condition") expression (root d)) (from_held [])) (read text)

abbrev constraints_given : List ℕ → Option (Result (Option (List Expr) × Counts) Fault)
constraints_given text = option_map (λ d. gives (optional (codes "constraints") (elements_at reader Itself) (root d)) (from_held [])) (read text)

abbrev wrong_at : {A : Type 0} → List ℕ → Option (Result (A × Counts) Fault)
wrong_at at = Some (Err (record { at = at; why = WrongShape }))

abbrev truth_of_node : List ℕ → Configuration → List Field → ℕ → Option Truth
truth_of_node text g fields w = option_map (λ e. truth e g fields w) (condition_in text)

-- ---- a feature that a node is conditioned on

abbrev aese : List ℕ
aese = codes "{\"condition\":{\"_type\":\"AST.Function\",\"name\":\"IsFeatureImplemented\",\"arguments\":[{\"_type\":\"AST.Identifier\",\"value\":\"FEAT_AES\"}]}}"

feature_unknown : truth_of_node aese (states [] []) [] 0x4e284800 ≡ Some Open
unfolding digits serde_json_on_literals
feature_unknown = refl

feature_on : truth_of_node aese (states (codes "FEAT_PMULL" ∷ codes "FEAT_AES" ∷ []) []) [] 0x4e284800 ≡ Some Yes
unfolding digits serde_json_on_literals
feature_on = refl

feature_off : truth_of_node aese (states [] (codes "FEAT_AES" ∷ [])) [] 0x4e284800 ≡ Some No
unfolding digits serde_json_on_literals
feature_off = refl

-- a function that has no meaning here
exception_level : truth_of_node (codes "{\"condition\":{\"_type\":\"AST.Function\",\"name\":\"HaveEL\",\"arguments\":[{\"_type\":\"AST.Identifier\",\"value\":\"EL2\"}]}}") (states [] []) [] 0xd69f03e0 ≡ Some Open
unfolding digits serde_json_on_literals
exception_level = refl

-- ---- no condition

absent_condition : truth_of_node (codes "{\"name\":\"a\"}") (states [] []) [] 0 ≡ Some Yes
unfolding digits serde_json_on_literals
absent_condition = refl

null_condition : truth_of_node (codes "{\"condition\":null}") (states [] []) [] 0 ≡ Some Yes
unfolding digits serde_json_on_literals
null_condition = refl

-- an object that is no expression leaves it open
empty_condition : truth_of_node (codes "{\"condition\":{}}") (states [] []) [] 0 ≡ Some Open
unfolding digits serde_json_on_literals
empty_condition = refl

-- a condition that is no object is a fault of the document, at the condition
truth_as_condition : condition_given (codes "{\"condition\":true}") ≡ wrong_at (codes "/condition")
unfolding digits serde_json_on_literals
truth_as_condition = refl

text_as_condition : condition_given (codes "{\"condition\":\"FEAT_AES\"}") ≡ wrong_at (codes "/condition")
unfolding digits serde_json_on_literals
text_as_condition = refl

array_as_condition : condition_given (codes "{\"condition\":[]}") ≡ wrong_at (codes "/condition")
unfolding digits serde_json_on_literals
array_as_condition = refl

-- and so is an element of an array of expressions, at the element
null_as_constraint : constraints_given (codes "{\"constraints\":[{\"_type\":\"AST.Identifier\",\"value\":\"FEAT_AES\"},null]}") ≡ wrong_at (codes "/constraints/1")
unfolding digits serde_json_on_literals
null_as_constraint = refl

-- ---- fields of the word

-- `Rd == '11111' || Rn == '11111'`
abbrev stack_pointer : List ℕ
stack_pointer = codes "{\"condition\":{\"_type\":\"AST.BinaryOp\",\"op\":\"||\",\"left\":{\"_type\":\"AST.BinaryOp\",\"op\":\"==\",\"left\":{\"_type\":\"AST.Identifier\",\"value\":\"Rd\"},\"right\":{\"_type\":\"Values.Value\",\"value\":\"'11111'\"}},\"right\":{\"_type\":\"AST.BinaryOp\",\"op\":\"==\",\"left\":{\"_type\":\"AST.Identifier\",\"value\":\"Rn\"},\"right\":{\"_type\":\"Values.Value\",\"value\":\"'11111'\"}}}}"

abbrev registers : List Field
registers = record { name = codes "Rn"; start = 5; width = 5 } ∷ record { name = codes "Rd"; start = 0; width = 5 } ∷ []

-- MOV X0, SP; ADD X0, X1, #1; ADD SP, X0, #1
from_stack_pointer : truth_of_node stack_pointer (states [] []) registers 0x910003e0 ≡ Some Yes
unfolding digits serde_json_on_literals
from_stack_pointer = refl

no_stack_pointer : truth_of_node stack_pointer (states [] []) registers 0x91000420 ≡ Some No
unfolding digits serde_json_on_literals
no_stack_pointer = refl

to_stack_pointer : truth_of_node stack_pointer (states [] []) registers 0x9100041f ≡ Some Yes
unfolding digits serde_json_on_literals
to_stack_pointer = refl

-- where the fields are not visible
without_fields : truth_of_node stack_pointer (states [] []) [] 0x910003e0 ≡ Some Open
unfolding digits serde_json_on_literals
without_fields = refl

-- ---- constraints of features

-- a feature that is on asks for another
implies_broken : truth_of_node (codes "{\"condition\":{\"_type\":\"AST.BinaryOp\",\"op\":\"-->\",\"left\":{\"_type\":\"AST.Identifier\",\"value\":\"FEAT_PMULL\"},\"right\":{\"_type\":\"AST.Identifier\",\"value\":\"FEAT_AES\"}}}") (states (codes "FEAT_PMULL" ∷ []) (codes "FEAT_AES" ∷ [])) [] 0 ≡ Some No
unfolding digits serde_json_on_literals
implies_broken = refl

implies_kept : truth_of_node (codes "{\"condition\":{\"_type\":\"AST.BinaryOp\",\"op\":\"-->\",\"left\":{\"_type\":\"AST.Identifier\",\"value\":\"FEAT_PMULL\"},\"right\":{\"_type\":\"AST.Identifier\",\"value\":\"FEAT_AES\"}}}") (states [] (codes "FEAT_PMULL" ∷ [])) [] 0 ≡ Some Yes
unfolding digits serde_json_on_literals
implies_kept = refl

-- two that exclude each other
excludes_broken : truth_of_node (codes "{\"condition\":{\"_type\":\"AST.UnaryOp\",\"op\":\"!\",\"expr\":{\"_type\":\"AST.BinaryOp\",\"op\":\"&&\",\"left\":{\"_type\":\"AST.Identifier\",\"value\":\"FEAT_TST\"},\"right\":{\"_type\":\"AST.Identifier\",\"value\":\"FEAT_AES\"}}}}") (states (codes "FEAT_TST" ∷ codes "FEAT_AES" ∷ []) []) [] 0 ≡ Some No
unfolding digits serde_json_on_literals
excludes_broken = refl

excludes_open : truth_of_node (codes "{\"condition\":{\"_type\":\"AST.UnaryOp\",\"op\":\"!\",\"expr\":{\"_type\":\"AST.BinaryOp\",\"op\":\"&&\",\"left\":{\"_type\":\"AST.Identifier\",\"value\":\"FEAT_TST\"},\"right\":{\"_type\":\"AST.Identifier\",\"value\":\"FEAT_AES\"}}}}") (states (codes "FEAT_TST" ∷ []) []) [] 0 ≡ Some Open
unfolding digits serde_json_on_literals
excludes_open = refl

-- one beside a call that has no meaning here
or_kept : truth_of_node (codes "{\"condition\":{\"_type\":\"AST.BinaryOp\",\"op\":\"||\",\"left\":{\"_type\":\"AST.Identifier\",\"value\":\"FEAT_TST\"},\"right\":{\"_type\":\"AST.Function\",\"name\":\"HaveEL\",\"arguments\":[{\"_type\":\"AST.Identifier\",\"value\":\"EL2\"}]}}}") (states (codes "FEAT_TST" ∷ []) []) [] 0 ≡ Some Yes
unfolding digits serde_json_on_literals
or_kept = refl

or_open : truth_of_node (codes "{\"condition\":{\"_type\":\"AST.BinaryOp\",\"op\":\"||\",\"left\":{\"_type\":\"AST.Identifier\",\"value\":\"FEAT_TST\"},\"right\":{\"_type\":\"AST.Function\",\"name\":\"HaveEL\",\"arguments\":[{\"_type\":\"AST.Identifier\",\"value\":\"EL2\"}]}}}") (states [] (codes "FEAT_TST" ∷ [])) [] 0 ≡ Some Open
unfolding digits serde_json_on_literals
or_open = refl

-- ---- preferences of aliases

-- the truth of a member `preferred` that is there
abbrev preference_of : List ℕ → List Field → ℕ → Option Truth
preference_of text fields w = option_and_then (λ d. option_and_then (λ e. option_map (λ e. truth (Some e) (states [] []) fields w) e) (walk.value (optional (codes "preferred") expression (root d)))) (read text)

-- a call without a meaning here, of fields that are visible: MOVZ X0, #1, LSL #0
abbrev move_wide_fields : List Field
move_wide_fields = record { name = codes "hw"; start = 21; width = 2 } ∷ record { name = codes "imm16"; start = 5; width = 16 } ∷ []

move_wide_preferred : preference_of (codes "{\"preferred\":{\"_type\":\"AST.Function\",\"name\":\"MoveWidePreferred\",\"arguments\":[{\"_type\":\"AST.Identifier\",\"value\":\"imm16\"},{\"_type\":\"AST.Identifier\",\"value\":\"hw\"}]}}") move_wide_fields 0xd2800020 ≡ Some Open
unfolding digits serde_json_on_literals
move_wide_preferred = refl

-- always preferred
always_preferred : preference_of (codes "{\"preferred\":{\"_type\":\"AST.Bool\",\"value\":true}}") [] 0xaa0103e0 ≡ Some Yes
unfolding digits serde_json_on_literals
always_preferred = refl

-- without the member an alias is never preferred, and there is no truth
no_preference : preference_of (codes "{\"name\":\"a\"}") [] 0xaa0103e0 ≡ None
unfolding digits serde_json_on_literals
no_preference = refl

-- ---- as deep as JSON is read

abbrev nots : ℕ → List ℕ
nots zero = codes "{\"_type\":\"AST.Bool\",\"value\":true}"
nots (suc n) = codes "{\"_type\":\"AST.UnaryOp\",\"op\":\"!\",\"expr\":" ++ (nots n ++ codes "}")

deepest : option_and_then (λ d. option_map (λ e. truth (Some e) (states [] []) [] 0) (walk.value (expression (root d)))) (read (nots 126)) ≡ Some Yes
unfolding digits serde_json_on_literals
deepest = refl

too_deep : is_some (read (nots 127)) ≡ false
unfolding digits serde_json_on_literals
too_deep = refl
