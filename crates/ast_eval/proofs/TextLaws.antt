-- What names mean by texts that tell their numbers apart.
use Rattle.std.proofs.Common.{get_or, ◌≡◌, ◌∙◌, refl, sym, ap, ap₂, ℕ, ◌==◌, Bool, true, false, ◌||◌, cond, List, [], ◌∷◌, length, map, bytes_eq, Option, Some, None, is_some, option_map, unwrap_or, IfSome, All}
use Rattle.std.specs.Prelude.{find, zip, option_and_then}
use Rattle.std.specs.List.{list_any}
use Rattle.std.specs.Map.{lookup}
use Rattle.std.specs.Option.{option_or}
use Rattle.std.proofs.lemmas.Bool.{eqb-true}
use Rattle.std.proofs.lemmas.Bool.Decides.{Decides-eqb, Decides-like, same_from_decides}
use Rattle.std.proofs.lemmas.Slice.Eq.{bytes_eq-Decides}
use Rattle.std.proofs.lemmas.List.Elements.{All-head, All-tail}
use Rattle.spec_expressions.specs.Scope.{Field, field_named, State, Flag, state_of}
use Rattle.spec_expressions.specs.Operations.{ATruth, APattern, as_truth}
use Rattle.spec_expressions.specs.Value.{name_value, state_value}
use Rattle.spec_bits.specs.Bits.{slice}
use Rattle.spec_bits.specs.Number.{low_digits}
use Rattle.bit_pattern.specs.declared.range.Range.{Range}
use Rattle.spec_instructions.specs.Fields.{has_text, is_named, visible_item}
use Rattle.mrs_arena.specs.Flat.{FlatItem}
use Rattle.mrs_arena.specs.Nodes.{has_name_id}
use Rattle.ast_eval.specs.Choices.{Choices, state_in, flag, flag_in, parameter_of, configuration_of}
use Rattle.ast_eval.specs.Fields.{last_named, bounds_of, item_by, fields_by}
use Rattle.ast_eval.specs.EnvView.{range_bounds}
use Rattle.ast_eval.specs.Views.{state_truth}
use Rattle.ast_eval.specs.Worth.{own_text}
use Rattle.ast_eval.proofs.LastLaws.{or_none}

-- an item's name, if it has one, is among certain numbers
abbrev pub IsAmong : (ℕ → Type 0) → FlatItem → Type 0
IsAmong P it = IfSome it.name P

-- texts of numbers tell two of them apart exactly where these differ
abbrev pub TellApart : (ℕ → List ℕ) → (ℕ → Type 0) → Type 0
TellApart text P = (a b : ℕ) → P a → P b → bytes_eq (text a) (text b) ≡ (b == a)

module _ (text : ℕ → List ℕ) (P : ℕ → Type 0) (apart : TellApart text P) where
  -- ---- parameters

  pub state_of-lists : (name : ℕ) → P name → (names : List ℕ) (states : List State) → All P names
      → option_map (λ p. p.state) (find (λ p. bytes_eq p.name (text name)) (map (parameter_of text) (zip names states))) ≡ lookup (λ other. name == other) (zip names states)
  state_of-lists name held [] states all = refl
  state_of-lists name held (n ∷ names) [] all = refl
  state_of-lists name held (n ∷ names) (s ∷ states) all =
      ap (λ b. option_map (λ p. p.state) (cond b (Some (parameter_of text (n, s))) (find (λ p. bytes_eq p.name (text name)) (map (parameter_of text) (zip names states))))) (apart n name (All-head P n names all) held)
      ∙ go (name == n) (state_of-lists name held names states (All-tail P n names all))
    where
      go : (b : Bool) → option_map (λ p. p.state) (find (λ p. bytes_eq p.name (text name)) (map (parameter_of text) (zip names states))) ≡ lookup (λ other. name == other) (zip names states)
          → option_map (λ p. p.state) (cond b (Some (parameter_of text (n, s))) (find (λ p. bytes_eq p.name (text name)) (map (parameter_of text) (zip names states)))) ≡ cond b (Some s) (lookup (λ other. name == other) (zip names states))
      go true rest = refl
      go false rest = rest

  pub state_of-text : (name : ℕ) → P name → (c : Choices) → All P c.names → state_of (text name) (configuration_of text c) ≡ state_in name c
  state_of-text name held c all = state_of-lists name held c.names c.states all

  -- ---- fields

  -- the field of an item that has the name
  abbrev pub field_of : ℕ → FlatItem → Field
  field_of name it = record { name = text name; start = it.start; width = length it.digits }

  abbrev is_number : ℕ → Option ℕ → Bool
  is_number name o = unwrap_or (option_map (λ other. other == name) o) false

  named_text : (name : ℕ) → P name → (o : Option ℕ) → IfSome o P → has_text (text name) (option_map text o) ≡ is_number name o
  named_text name held None is = refl
  named_text name held (Some other) is = apart name other held is

  -- an item has the name where one of them is the last
  any-named : (name : ℕ) → P name → (items : List FlatItem) → All (IsAmong P) items → list_any (is_named (text name)) (map (item_by text) items) ≡ is_some (last_named name items)
  any-named name held [] all = refl
  any-named name held (it ∷ items) all =
      ap₂ (λ a b. a || b) (named_text name held it.name (All-head (IsAmong P) it items all)) (any-named name held items (All-tail (IsAmong P) it items all))
      ∙ go (has_name_id name it) (last_named name items)
    where
      go : (b : Bool) (o : Option FlatItem) → (b || is_some o) ≡ is_some (option_or o (cond b (Some it) None))
      go true None = refl
      go true (Some x) = refl
      go false None = refl
      go false (Some x) = refl

  -- one field more in front, where it is no deeper item's
  field-step : (name other : ℕ) (same taken : Bool) (it : FlatItem) (deepest : Option FlatItem) (rest : List Field) → field_named (text name) rest ≡ option_map (field_of name) deepest
      → (same ≡ true → other ≡ name) → bytes_eq (text other) (text name) ≡ same → (same ≡ true → taken ≡ is_some deepest)
      → field_named (text name) (cond taken rest (field_of other it ∷ rest)) ≡ option_map (field_of name) (option_or deepest (cond same (Some it) None))
  field-step name other true taken it None rest before is eq among =
      ap (λ b. field_named (text name) (cond b rest (field_of other it ∷ rest))) (among refl)
      ∙ ap (λ b. cond b (Some (field_of other it)) (field_named (text name) rest)) eq
      ∙ ap (λ k. Some (field_of k it)) (is refl)
  field-step name other true taken it (Some deepest) rest before is eq among = ap (λ b. field_named (text name) (cond b rest (field_of other it ∷ rest))) (among refl) ∙ before
  field-step name other false true it deepest rest before is eq among = before ∙ ap (option_map (field_of name)) (sym (or_none deepest))
  field-step name other false false it deepest rest before is eq among =
      ap (λ b. cond b (Some (field_of other it)) (field_named (text name) rest)) eq ∙ before ∙ ap (option_map (field_of name)) (sym (or_none deepest))

  turned : (m n : ℕ) → (m == n) ≡ (n == m)
  turned m n = same_from_decides (m == n) (n == m) (Decides-like (m == n) (λ e. sym e) (λ e. sym e) (Decides-eqb m n)) (Decides-eqb n m)

  visible-step : (name : ℕ) → P name → (it : FlatItem) (items : List FlatItem) → All (IsAmong P) items → field_named (text name) (fields_by text items) ≡ option_map (field_of name) (last_named name items)
      → (o : Option ℕ) → IfSome o P
      → field_named (text name) (visible_item (item_by text it) (option_map text o) (map (item_by text) items) (fields_by text items)) ≡ option_map (field_of name) (option_or (last_named name items) (cond (is_number name o) (Some it) None))
  visible-step name held it items all before None is = before ∙ ap (option_map (field_of name)) (sym (or_none (last_named name items)))
  visible-step name held it items all before (Some other) is =
      field-step name other (other == name) (list_any (is_named (text other)) (map (item_by text) items)) it (last_named name items) (fields_by text items) before
      (λ same. eqb-true other name same) (apart other name is held ∙ turned name other)
      (λ same. ap (λ k. list_any (is_named (text k)) (map (item_by text) items)) (eqb-true other name same) ∙ any-named name held items all)

  -- the field of a name is that of the last item that has it
  pub field_named-text : (name : ℕ) → P name → (items : List FlatItem) → All (IsAmong P) items → field_named (text name) (fields_by text items) ≡ option_map (field_of name) (last_named name items)
  field_named-text name held [] all = refl
  field_named-text name held (it ∷ items) all =
      let others = All-tail (IsAmong P) it items all in
      visible-step name held it items others (field_named-text name held items others) it.name (All-head (IsAmong P) it items all)

-- ---- a text of its own for each number

pub own_apart : TellApart own_text (λ _. Unit {0})
own_apart a b _ _ =
    same_from_decides (bytes_eq (own_text a) (own_text b)) (b == a)
    (Decides-like (bytes_eq (own_text a) (own_text b)) (λ e. cc) (λ e. ap own_text (sym e)) (bytes_eq-Decides (own_text a) (own_text b)))
    (Decides-eqb b a)

none_left : (items : List FlatItem) → All (IsAmong (λ _. Unit {0})) items
none_left items k d within = any (get_or items k d).name
  where
    any : (o : Option ℕ) → IfSome o (λ _. Unit {0})
    any None = tt
    any (Some n) = tt

pub field_named-own : (name : ℕ) (items : List FlatItem) → field_named (own_text name) (fields_by own_text items) ≡ option_map (field_of own_text (λ _. Unit {0}) own_apart name) (last_named name items)
field_named-own name items = field_named-text own_text (λ _. Unit {0}) own_apart name tt items (none_left items)

pub state_of-own : (name : ℕ) (c : Choices) → state_of (own_text name) (configuration_of own_text c) ≡ state_in name c
state_of-own name c = state_of-text own_text (λ _. Unit {0}) own_apart name tt c (λ k d within. tt)

-- the bits of a field where the bounds of the last item are those of a range
pub name_value-some : (name w : ℕ) (items : List FlatItem) (c : Choices) (range : Range) → Some (range_bounds range) ≡ option_map bounds_of (last_named name items)
    → APattern (low_digits range.width (slice w range.start range.width)) ≡ name_value (field_named (own_text name) (fields_by own_text items)) (state_of (own_text name) (configuration_of own_text c)) w
name_value-some name w items c range is = go (last_named name items) is ∙ ap (λ o. name_value o (state_of (own_text name) (configuration_of own_text c)) w) (sym (field_named-own name items))
  where
    go : (o : Option FlatItem) → Some (range_bounds range) ≡ option_map bounds_of o
        → APattern (low_digits range.width (slice w range.start range.width)) ≡ name_value (option_map (field_of own_text (λ _. Unit {0}) own_apart name) o) (state_of (own_text name) (configuration_of own_text c)) w
    go None e = absurd (cc)
    go (Some it) e =
        let same : range_bounds range ≡ bounds_of it = cc in
        ap (λ (b : ℕ × ℕ). APattern (low_digits b.1 (slice w b.0 b.1))) same

-- the state of the parameter where there is no item
pub name_value-none : (name w : ℕ) (items : List FlatItem) (c : Choices) → None ≡ option_map bounds_of (last_named name items)
    → ATruth (state_truth (flag_in name c)) ≡ name_value (field_named (own_text name) (fields_by own_text items)) (state_of (own_text name) (configuration_of own_text c)) w
name_value-none name w items c is =
    value-state (state_in name c)
    ∙ ap state_value (sym (state_of-own name c))
    ∙ go (last_named name items) is
    ∙ ap (λ o. name_value o (state_of (own_text name) (configuration_of own_text c)) w) (sym (field_named-own name items))
  where
    value-state : (o : Option State) → ATruth (state_truth (option_and_then flag o)) ≡ state_value o
    value-state None = refl
    value-state (Some (Flag b)) = refl

    go : (o : Option FlatItem) → None ≡ option_map bounds_of o → state_value (state_of (own_text name) (configuration_of own_text c)) ≡ name_value (option_map (field_of own_text (λ _. Unit {0}) own_apart name) o) (state_of (own_text name) (configuration_of own_text c)) w
    go None e = refl
    go (Some it) e = absurd (cc)

pub state_truth-own : (name : ℕ) (c : Choices) → state_truth (flag_in name c) ≡ as_truth (state_value (state_of (own_text name) (configuration_of own_text c)))
state_truth-own name c = go (state_in name c) ∙ ap (λ o. as_truth (state_value o)) (sym (state_of-own name c))
  where
    go : (o : Option State) → state_truth (option_and_then flag o) ≡ as_truth (state_value o)
    go None = refl
    go (Some (Flag b)) = refl
