-- The kinds of objects in a Registers document, by the text of their `_type`, after AARCHMRS, Arm's machine-readable
-- architecture. Of fields, accessors and values many kinds are known by the word that they begin with alone.
use Rattle.std.specs.Prelude.{ℕ, Bool, List, [], ◌∷◌, length, take, Option, Some, None, codes, bytes_eq, find, if◌then◌else◌}

-- a text begins with a word
abbrev pub begins : List ℕ → List ℕ → Bool
begins word text = bytes_eq (take (length word) text) word

-- ---- elements of the document: a register, an array of registers, and a block of them

pub data ElementKind : Type 0 where
  Register : ElementKind
  RegisterArray : ElementKind
  RegisterBlock : ElementKind

abbrev pub element_text : ElementKind → List ℕ
element_text Register = codes "Register"
element_text RegisterArray = codes "RegisterArray"
element_text RegisterBlock = codes "RegisterBlock"

abbrev pub element_named : List ℕ → Option ElementKind
element_named text = find (λ k. bytes_eq (element_text k) text) (Register ∷ RegisterArray ∷ RegisterBlock ∷ [])

-- ---- fields: a field, one of which a condition decides what it is, and any other

pub data FieldKind : Type 0 where
  Field : FieldKind
  ConditionalField : FieldKind
  OtherField : FieldKind

abbrev pub field_named : List ℕ → Option FieldKind
field_named text =
    if bytes_eq text (codes "Fields.Field") then Some Field
    else (if bytes_eq text (codes "Fields.ConditionalField") then Some ConditionalField
    else (if begins (codes "Fields.") text then Some OtherField else None))

-- ---- accessors: those by an instruction of the system, and any other

pub data AccessorKind : Type 0 where
  SystemAccessor : AccessorKind
  OtherAccessor : AccessorKind

abbrev pub accessor_named : List ℕ → Option AccessorKind
accessor_named text =
    if bytes_eq text (codes "Accessors.SystemAccessor") then Some SystemAccessor
    else (if begins (codes "Accessors.") text then Some OtherAccessor else None)

-- ---- values: digits as they are written, and any other, which is computed

pub data ValueKind : Type 0 where
  Value : ValueKind
  OtherValue : ValueKind

abbrev pub value_named : List ℕ → Option ValueKind
value_named text =
    if bytes_eq text (codes "Values.Value") then Some Value
    else (if begins (codes "Values.") text then Some OtherValue else None)
