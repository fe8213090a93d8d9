-- An expression is worth the same by all texts that tell the numbers of names apart.
use Rattle.std.proofs.Common.{◌≡◌, ◌∙◌, refl, sym, ap, ap₂, ℕ, ◌<◌, List, [], ◌∷◌, length, Option, Some, None, option_map, All}
use Rattle.spec_expressions.specs.Expression.{FunctionOf, UInt, IsZero, IsOnes, IsFeatureImplemented, Named, ExprOf, Boolean, Integer, Bits, Name, Not, Binary, Call, Set, Join, Slice, Other, ExprsOf, no_exprs, expr, function_with_names, with_names, all_with_names, EachName, EachNameOfAll}
use Rattle.spec_expressions.specs.Truth.{negation}
use Rattle.spec_expressions.specs.Scope.{Field, field_named, Configuration, state_of}
use Rattle.spec_expressions.specs.Operations.{Value, ATruth, as_truth, binary, in_a_row, sliced}
use Rattle.spec_expressions.specs.Value.{state_value, name_value, implemented, call, value, values, elements}
use Rattle.mrs_names.specs.Texts.{AreNames}
use Rattle.mrs_arena.specs.Flat.{FlatItem}
use Rattle.mrs_arena.specs.Placed.{text_of}
use Rattle.mrs_arena.proofs.NameLaws.{text_eq}
use Rattle.ast_eval.specs.Choices.{Choices, configuration_of}
use Rattle.ast_eval.specs.Fields.{last_named, bounds_of, field_bounds, fields_by}
use Rattle.ast_eval.specs.Worth.{value_by, truth_by, own_text, AreAllHeld}
use Rattle.ast_eval.proofs.TextLaws.{IsAmong, TellApart, field_of, field_named-text, field_named-own, state_of-text, state_of-own, own_apart}

-- names mean the same by two kinds of texts
module _ (text other : ℕ → List ℕ) (P : ℕ → Type 0) (g h : Configuration) (fields others : List Field) (w : ℕ)
    (same_state : (name : ℕ) → P name → state_of (text name) g ≡ state_of (other name) h)
    (same_name : (name : ℕ) → P name → name_value (field_named (text name) fields) (state_of (text name) g) w ≡ name_value (field_named (other name) others) (state_of (other name) h) w) where
  implemented-same : (es : ExprsOf ℕ) → EachNameOfAll P es → implemented (all_with_names text es) g ≡ implemented (all_with_names other es) h
  implemented-same no_exprs held = refl
  implemented-same (expr (Name name) no_exprs) held = ap (λ state. as_truth (state_value state)) (same_state name held.0)
  implemented-same (expr (Name name) (expr e es)) held = refl
  implemented-same (expr (Boolean b) es) held = refl
  implemented-same (expr (Integer n) es) held = refl
  implemented-same (expr (Bits ds) es) held = refl
  implemented-same (expr (Not e) es) held = refl
  implemented-same (expr (Binary op l r) es) held = refl
  implemented-same (expr (Call f args) es) held = refl
  implemented-same (expr (Set members) es) held = refl
  implemented-same (expr (Join parts) es) held = refl
  implemented-same (expr (Slice e high low) es) held = refl
  implemented-same (expr Other es) held = refl

  call-same : (f : FunctionOf ℕ) (es : ExprsOf ℕ) → EachNameOfAll P es → (vs us : List Value) → vs ≡ us
      → call (function_with_names text f) (all_with_names text es) vs g ≡ call (function_with_names other f) (all_with_names other es) us h
  call-same f es held vs us same = ap (λ xs. call (function_with_names text f) (all_with_names text es) xs g) same ∙ go f us
    where
      go : (f : FunctionOf ℕ) (us : List Value) → call (function_with_names text f) (all_with_names text es) us g ≡ call (function_with_names other f) (all_with_names other es) us h
      go UInt [] = refl
      go UInt (v ∷ []) = refl
      go UInt (v ∷ u ∷ us) = refl
      go IsZero [] = refl
      go IsZero (v ∷ []) = refl
      go IsZero (v ∷ u ∷ us) = refl
      go IsOnes [] = refl
      go IsOnes (v ∷ []) = refl
      go IsOnes (v ∷ u ∷ us) = refl
      go IsFeatureImplemented us = ap ATruth (implemented-same es held)
      go (Named name) us = refl

  mutual
    pub value-same : (e : ExprOf ℕ) → EachName P e → value (with_names text e) g fields w ≡ value (with_names other e) h others w
    value-same (Boolean b) held = refl
    value-same (Integer n) held = refl
    value-same (Bits ds) held = refl
    value-same (Name name) held = same_name name held
    value-same (Not e) held = ap (λ v. ATruth (negation (as_truth v))) (value-same e held)
    value-same (Binary op l r) held =
        ap₂ (λ a b. ATruth (binary op a b (elements (with_names text r) g fields w))) (value-same l held.0) (value-same r held.1)
        ∙ ap (λ es. ATruth (binary op (value (with_names other l) h others w) (value (with_names other r) h others w) es)) (elements-same r held.1)
    value-same (Call f es) held = call-same f es held.1 _ _ (values-same es held.1)
    value-same (Set es) held = refl
    value-same (Join es) held = ap in_a_row (values-same es held)
    value-same (Slice e high low) held =
        ap₂ (λ a b. sliced a b (value (with_names text low) g fields w)) (value-same e held.0) (value-same high held.1.0)
        ∙ ap (sliced (value (with_names other e) h others w) (value (with_names other high) h others w)) (value-same low held.1.1)
    value-same Other held = refl

    values-same : (es : ExprsOf ℕ) → EachNameOfAll P es → values (all_with_names text es) g fields w ≡ values (all_with_names other es) h others w
    values-same no_exprs held = refl
    values-same (expr e es) held = ap₂ (λ v vs. v ∷ vs) (value-same e held.0) (values-same es held.1)

    elements-same : (e : ExprOf ℕ) → EachName P e → elements (with_names text e) g fields w ≡ elements (with_names other e) h others w
    elements-same (Set es) held = ap Some (values-same es held)
    elements-same (Boolean b) held = refl
    elements-same (Integer n) held = refl
    elements-same (Bits ds) held = refl
    elements-same (Name name) held = refl
    elements-same (Not e) held = refl
    elements-same (Binary op l r) held = refl
    elements-same (Call f es) held = refl
    elements-same (Join es) held = refl
    elements-same (Slice e high low) held = refl
    elements-same Other held = refl

-- ---- names that are held

module _ (names : List (List ℕ)) (are : AreNames names) where
  abbrev pub IsNumber : ℕ → Type 0
  IsNumber name = name < length names

  abbrev pub text : ℕ → List ℕ
  text = text_of names

  pub apart : TellApart text IsNumber
  apart a b held is = text_eq names a b are held is

  pub field_named-held : (name : ℕ) → name < length names → (items : List FlatItem) → All (IsAmong IsNumber) items → field_named (text name) (fields_by text items) ≡ option_map (field_of text IsNumber apart name) (last_named name items)
  field_named-held name held items all = field_named-text text IsNumber apart name held items all

  state-held : (c : Choices) → All IsNumber c.names → (name : ℕ) → IsNumber name → state_of (text name) (configuration_of text c) ≡ state_of (own_text name) (configuration_of own_text c)
  state-held c all name held = state_of-text text IsNumber apart name held c all ∙ sym (state_of-own name c)

  name-held : (c : Choices) → All IsNumber c.names → (items : List FlatItem) → All (IsAmong IsNumber) items → (w name : ℕ) → IsNumber name
      → name_value (field_named (text name) (fields_by text items)) (state_of (text name) (configuration_of text c)) w ≡ name_value (field_named (own_text name) (fields_by own_text items)) (state_of (own_text name) (configuration_of own_text c)) w
  name-held c all items fields w name held =
      ap₂ (λ f state. name_value f state w) (field_named-held name held items fields) (state-held c all name held)
      ∙ go (last_named name items)
      ∙ ap (λ f. name_value f (state_of (own_text name) (configuration_of own_text c)) w) (sym (field_named-own name items))
    where
      go : (o : Option FlatItem) → name_value (option_map (field_of text IsNumber apart name) o) (state_of (own_text name) (configuration_of own_text c)) w ≡ name_value (option_map (field_of own_text (λ _. Unit {0}) own_apart name) o) (state_of (own_text name) (configuration_of own_text c)) w
      go None = refl
      go (Some it) = refl

  pub value_by-held : (e : ExprOf ℕ) (c : Choices) (items : List FlatItem) (w : ℕ) → AreAllHeld names (Some e) c items → value_by text e c items w ≡ value_by own_text e c items w
  value_by-held e c items w held =
      value-same text own_text IsNumber (configuration_of text c) (configuration_of own_text c) (fields_by text items) (fields_by own_text items) w (state-held c held.parameters) (name-held c held.parameters items held.fields w) e held.expression

  pub truth_by-held : (e : Option (ExprOf ℕ)) (c : Choices) (items : List FlatItem) (w : ℕ) → AreAllHeld names e c items → truth_by text e c items w ≡ truth_by own_text e c items w
  truth_by-held None c items w held = refl
  truth_by-held (Some e) c items w held = ap as_truth (value_by-held e c items w held)

  -- the bounds of the last item of a name are those of its field
  pub last-field : (name : ℕ) → name < length names → (items : List FlatItem) → All (IsAmong IsNumber) items → option_map bounds_of (last_named name items) ≡ option_map field_bounds (field_named (text name) (fields_by text items))
  last-field name held items all = go (last_named name items) ∙ ap (option_map field_bounds) (sym (field_named-held name held items all))
    where
      go : (o : Option FlatItem) → option_map bounds_of o ≡ option_map field_bounds (option_map (field_of text IsNumber apart name) o)
      go None = refl
      go (Some it) = refl
