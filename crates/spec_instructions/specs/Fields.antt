-- What the nodes along a path say together: the visible fields, and the bits that are fixed.
use Rattle.std.specs.Prelude.{◌≡◌, ◌≢◌, ◌↔◌, ℕ, ◌+◌, ◌-◌, ◌<◌, ◌≤◌, List, [], ◌∷◌, ◌++◌, length, replicate, slice_get, All, Any, AllPairs, Bool, false, bytes_eq, Option, Some, None, option_and_then, if◌then◌else◌}
use Rattle.std.specs.List.{list_any}
use Rattle.spec_bits.specs.Pattern.{Digit, Either, value_at, joined}
use Rattle.spec_bits.specs.Item.{Item, fixed_digits, fixes}
pub use Rattle.spec_expressions.specs.Scope.{Field}
use Rattle.spec_instructions.specs.Tree.{Own}
use Rattle.spec_instructions.specs.Paths.{path_items}

-- an item has that name
abbrev pub has_text : List ℕ → Option (List ℕ) → Bool
has_text name None = false
has_text name (Some text) = bytes_eq name text

abbrev pub is_named : List ℕ → Item → Bool
is_named name it = has_text name it.name

-- a name means the deepest item of that name, which is the last of them: names are distinct within a node
abbrev pub visible_item : Item → Option (List ℕ) → List Item → List Field → List Field
visible_item it None deeper rest = rest
visible_item it (Some name) deeper rest = if list_any (is_named name) deeper then rest else record { name = name; start = it.start; width = length it.digits } ∷ rest

-- the fields that are visible behind these items, each at the place of its deepest item
abbrev pub visible : List Item → List Field
visible [] = []
visible (it ∷ items) = visible_item it it.name items (visible items)

abbrev pub fields : List Own → List Field
fields path = visible (path_items path)

-- ---- which fields these are

-- a field is that of item number k of these: the item has its name, its lowest bit and as many bits, and no item behind has the name
pub record IsFieldOf (items : List Item) (field : Field) (k : ℕ) : Type 0 where
  pub item : Item
  pub at : slice_get items k ≡ Some item
  pub name : item.name ≡ Some field.name
  pub start : field.start ≡ item.start
  pub width : field.width ≡ length item.digits
  pub deepest : (j : ℕ) (other : Item) → k < j → slice_get items j ≡ Some other → other.name ≢ Some field.name

-- each field is that of the deepest item of its name, each name of an item has a field, no name has two, and the fields stand in the order of their items
pub record AreVisible (items : List Item) (fields : List Field) : Type 0 where
  pub each : All (λ field. (k : ℕ) × IsFieldOf items field k) fields
  pub every : All (λ it. (name : List ℕ) → it.name ≡ Some name → Any (λ field. field.name ≡ name) fields) items
  pub once : AllPairs (λ first second. first.name ≢ second.name) fields
  pub order : AllPairs (λ first second. (j k : ℕ) → IsFieldOf items first j → IsFieldOf items second k → j < k) fields

-- the fields of a path are the visible ones of its items
abbrev pub FieldsAreVisible : Type 0
FieldsAreVisible = (path : List Own) → AreVisible (path_items path) (fields path)

-- ---- the bits that are fixed

-- the 32 digits of the word that an item fixes, the highest first
abbrev pub word_digits : Item → List Digit
word_digits it = replicate (32 - (it.start + length it.digits)) Either ++ (fixed_digits it ++ replicate it.start Either)

-- all bits that some item fixes, as one pattern, unless two items fix a bit to different values
abbrev pub joined_items : List Item → Option (List Digit)
joined_items [] = Some (replicate 32 Either)
joined_items (it ∷ items) = option_and_then (joined (word_digits it)) (joined_items items)

-- the fixed bits of a path, merged into one pattern
abbrev pub merged : List Own → Option (List Digit)
merged path = joined_items (path_items path)

-- ---- which bits these are

-- some item fixes bit i to that value
abbrev pub AreFixing : List Item → ℕ → ℕ → Type 0
AreFixing items i value = Any (λ it. fixes it i ≡ Some value) items

-- two items clash: they fix one bit to different values
pub record HaveClash (items : List Item) : Type 0 where
  pub bit : ℕ
  pub first : ℕ
  pub second : ℕ
  pub is_first : AreFixing items bit first
  pub is_second : AreFixing items bit second
  pub differ : first ≢ second

-- 32 digits, of which one fixes its bit to a value exactly where some item does
pub record AreMerged (items : List Item) (digits : List Digit) : Type 0 where
  pub count : length digits ≡ 32
  pub each : (i value : ℕ) → (value_at digits i ≡ Some value) ↔ AreFixing items i value

-- an item lies within the word, as each item of a document without faults does
abbrev pub IsWithinWord : Item → Type 0
IsWithinWord it = it.start + length it.digits ≤ 32

-- a path's merged bits are its fixed bits: those that its items fix, and none exactly where two of its items clash
pub record IsExactlyMerged (items : List Item) (bits : Option (List Digit)) : Type 0 where
  pub some : (digits : List Digit) → bits ≡ Some digits → AreMerged items digits
  pub none : (bits ≡ None) ↔ HaveClash items

abbrev pub MergedIsExact : Type 0
MergedIsExact = (path : List Own) → All IsWithinWord (path_items path) → IsExactlyMerged (path_items path) (merged path)
