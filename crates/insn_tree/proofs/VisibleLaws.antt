-- The fields that are gathered upward are the visible ones.
use Rattle.std.proofs.Common.{◌≡◌, ◌∙◌, sym, ap, refl, ℕ, ◌<◌, Bool, true, false, ◌||◌, ◌==◌, cond, List, [], ◌∷◌, ◌++◌, length, map, reverse, Option, Some, None, option_map, unwrap_or, IfSome, All}
use Rattle.std.specs.List.{list_any}
use Rattle.std.proofs.lemmas.Bool.{eqb-true}
use Rattle.std.proofs.lemmas.List.{reverse-append, map-append}
use Rattle.std.proofs.lemmas.List.Folds.{list_any-append}
use Rattle.std.proofs.lemmas.List.Elements.{All-head, All-tail}
use Rattle.spec_instructions.specs.Fields.{Field, has_text, is_named, visible, visible_item, fields}
use Rattle.bit_pattern.proofs.DigitLaws.{length-digits_below}
use Rattle.mrs_names.specs.declared.name_id.NameId.{NameId}
use Rattle.mrs_names.specs.Texts.{AreNames}
use Rattle.mrs_arena.specs.declared.item.Item.{Item}
use Rattle.mrs_arena.specs.Views.{flat_item}
use Rattle.insn_tree.specs.declared.field_range.FieldRange.{FieldRange}
use Rattle.insn_tree.specs.Views.{flat_field}
use Rattle.mrs_arena.specs.Flat.{FlatItem, FlatNode}
use Rattle.mrs_arena.specs.Nodes.{has_name_id}
use Rattle.mrs_arena.specs.Placed.{text_of, item_of, path_to, IsHeldItem, AreHeld}
use Rattle.insn_tree.specs.Upward.{onto}
use Rattle.insn_tree.specs.Visible.{FlatField, has_field_name, field_named, with_named, with_field, fields_at}
use Rattle.mrs_arena.proofs.NameLaws.{text_eq}
use Rattle.ast_eval.specs.Fields.{items_to}
use Rattle.ast_eval.proofs.PathLaws.{path_items_to, held_to}
use Rattle.insn_tree.proofs.UpwardLaws.{gathered-onto}

-- a field by the text of its name
abbrev pub text_field : List (List ℕ) → FlatField → Field
text_field names f = record { name = text_of names f.name; start = f.start; width = f.width }

-- ---- a field has a name where an item has it

or_same : (b c : Bool) → (b ≡ true → c ≡ true) → c ≡ (b || c)
or_same true c h = h refl
or_same false c h = refl

or_one : (b c : Bool) → (c || (b || false)) ≡ (b || c)
or_one true true = refl
or_one true false = refl
or_one false true = refl
or_one false false = refl

-- a name that is there is that of a number
abbrev is_number : ℕ → Option ℕ → Bool
is_number name o = unwrap_or (option_map (λ other. other == name) o) false

named_with : (name : ℕ) (it : FlatItem) (o : Option ℕ) (deeper : List FlatField) → list_any (has_field_name name) (with_named it o deeper) ≡ (is_number name o || list_any (has_field_name name) deeper)
named_with name it None deeper = refl
named_with name it (Some other) deeper = go (list_any (has_field_name other) deeper) refl
  where
    go : (b : Bool) → list_any (has_field_name other) deeper ≡ b → list_any (has_field_name name) (cond b deeper (deeper ++ field_named other it ∷ [])) ≡ ((other == name) || list_any (has_field_name name) deeper)
    go true taken = or_same (other == name) (list_any (has_field_name name) deeper) (λ yes. ap (λ k. list_any (has_field_name k) deeper) (sym (eqb-true other name yes)) ∙ taken)
    go false free = list_any-append (has_field_name name) deeper (field_named other it ∷ []) ∙ or_one (other == name) (list_any (has_field_name name) deeper)

named_onto : (name : ℕ) (items : List FlatItem) → list_any (has_field_name name) (onto with_field items []) ≡ list_any (has_name_id name) items
named_onto name [] = refl
named_onto name (it ∷ items) = named_with name it it.name (onto with_field items []) ∙ ap (λ b. is_number name it.name || b) (named_onto name items)

-- ---- and an item has it by its text where it has it by its number

module _ (names : List (List ℕ)) (are : AreNames names) where
  named_text : (a : ℕ) → a < length names → (o : Option ℕ) → IfSome o (λ id. id < length names) → has_text (text_of names a) (option_map (text_of names) o) ≡ is_number a o
  named_text a ha None held = refl
  named_text a ha (Some b) held = text_eq names a b are ha held

  named_texts : (a : ℕ) → a < length names → (items : List FlatItem) → All (IsHeldItem names) items → list_any (is_named (text_of names a)) (map (item_of names) items) ≡ list_any (has_name_id a) items
  named_texts a ha [] held = refl
  named_texts a ha (it ∷ items) held =
      ap (λ b. b || list_any (is_named (text_of names a)) (map (item_of names) items)) (named_text a ha it.name (All-head (IsHeldItem names) it items held))
      ∙ ap (λ b. is_number a it.name || b) (named_texts a ha items (All-tail (IsHeldItem names) it items held))

  -- ---- visible fields

  visible_step : (it : FlatItem) (o : Option ℕ) → IfSome o (λ id. id < length names) → (items : List FlatItem) → All (IsHeldItem names) items
      → visible (map (item_of names) items) ≡ map (text_field names) (reverse (onto with_field items []))
      → visible_item (item_of names it) (option_map (text_of names) o) (map (item_of names) items) (visible (map (item_of names) items)) ≡ map (text_field names) (reverse (with_named it o (onto with_field items [])))
  visible_step it None held items all rest = rest
  visible_step it (Some a) held items all rest =
      ap (λ b. cond b (visible (map (item_of names) items)) (text_field names (field_named a it) ∷ visible (map (item_of names) items))) (named_texts a held items all ∙ sym (named_onto a items))
      ∙ ap (λ fs. cond (list_any (has_field_name a) (onto with_field items [])) fs (text_field names (field_named a it) ∷ fs)) rest
      ∙ go (list_any (has_field_name a) (onto with_field items [])) (onto with_field items [])
    where
      go : (b : Bool) (deeper : List FlatField) → cond b (map (text_field names) (reverse deeper)) (text_field names (field_named a it) ∷ map (text_field names) (reverse deeper)) ≡ map (text_field names) (reverse (cond b deeper (deeper ++ field_named a it ∷ [])))
      go true deeper = refl
      go false deeper = ap (map (text_field names)) (sym (reverse-append deeper (field_named a it ∷ [])))

  visible_onto : (items : List FlatItem) → All (IsHeldItem names) items → visible (map (item_of names) items) ≡ map (text_field names) (reverse (onto with_field items []))
  visible_onto [] held = refl
  visible_onto (it ∷ items) held =
      visible_step it it.name (All-head (IsHeldItem names) it items held) items (All-tail (IsHeldItem names) it items held) (visible_onto items (All-tail (IsHeldItem names) it items held))

  pub fields-at : (nodes : List FlatNode) → AreHeld names nodes → (n : ℕ) → map (text_field names) (fields_at nodes n) ≡ fields (path_to names nodes n)
  fields-at nodes held n =
      ap (λ fs. map (text_field names) (reverse fs)) (gathered-onto with_field nodes n [])
      ∙ sym (visible_onto (items_to nodes n) (held_to names nodes held n))
      ∙ ap visible (sym (path_items_to names nodes n))

-- ---- a field that is put

pub field_put : (it : Item) (name : NameId) (deeper new : List FieldRange) (field : FieldRange) → it.name ≡ Some name → list_any (has_field_name name.0) (map flat_field deeper) ≡ false → new ≡ deeper ++ field ∷ []
    → field.name ≡ name → field.range.start ≡ it.start → field.range.width ≡ it.pattern.width → map flat_field new ≡ with_field (flat_item it) (map flat_field deeper)
field_put it name deeper new field named free put is start width =
    let fields = map flat_field deeper in
    let wide = width ∙ sym (length-digits_below it.pattern.mask it.pattern.value it.pattern.width) in
    let same : flat_field field ≡ field_named name.0 (flat_item it) =
    ap (λ (n : NameId). record { name = n.0; start = field.range.start; width = field.range.width }) is
    ∙ ap (λ s. record { name = name.0; start = s; width = field.range.width }) start
    ∙ ap (λ w. record { name = name.0; start = it.start; width = w }) wide in
    ap (map flat_field) put
    ∙ map-append flat_field deeper (field ∷ [])
    ∙ ap (λ f. fields ++ f ∷ []) same
    ∙ sym (ap (λ (o : Option NameId). with_named (flat_item it) (option_map (λ id. id.0) o) fields) named ∙ ap (λ b. cond b fields (fields ++ field_named name.0 (flat_item it) ∷ [])) free)
