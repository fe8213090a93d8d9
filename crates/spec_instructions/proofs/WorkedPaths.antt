-- Worked values: labels of leaves, and the fields and bits of paths.
use Rattle.std.specs.Prelude.{◌≡◌, ℕ, List, [], ◌∷◌, Option, Some, None, map, true, false, Result, Ok, Err, codes, refl}
use Rattle.std.specs.Fmt.{digits}
use Rattle.spec_bits.specs.Pattern.{Digit}
use Rattle.spec_bits.specs.PatternText.{PatternRefusal, pattern_in}
use Rattle.spec_bits.specs.Item.{Item}
use Rattle.spec_instructions.specs.Kind.{Kind, Set, Group, Leaf}
use Rattle.spec_instructions.specs.Encodeset.{is_binary, within_limits}
use Rattle.spec_instructions.specs.Tree.{Own, bare}
use Rattle.spec_instructions.specs.Paths.{label, labelled_leaf}
use Rattle.spec_instructions.specs.Fields.{fields, merged}

-- the digits of a text that is a pattern, and items with such digits
abbrev digits_read : Result (List Digit) PatternRefusal → List Digit
digits_read (Ok digits) = digits
digits_read (Err refusal) = []

abbrev digits_in : List ℕ → List Digit
digits_in text = digits_read (pattern_in text)

abbrev item_of : Option (List ℕ) → ℕ → List ℕ → Item
item_of name start text = record { name = name; start = start; digits = digits_in text; marks = map (λ _. false) (digits_in text) }

abbrev bits : ℕ → List ℕ → Item
bits start text = item_of None start text

abbrev field : List ℕ → ℕ → List ℕ → Item
field name start text = item_of (Some name) start text

-- bits all of which are should-be where they are `0` or `1`
abbrev should_be_bits : ℕ → List ℕ → Item
should_be_bits start text = record { name = None; start = start; digits = digits_in text; marks = map is_binary (digits_in text) }

abbrev own : Kind → List ℕ → List Item → Own
own kind name items = record (bare kind name) { items = items }

-- ---- labels

-- two leaves of one name, and one below a group of that name
abbrev three_leaves : List (List Own)
three_leaves = (own Set (codes "A64") [] ∷ own Leaf (codes "DUP") [] ∷ [])
    ∷ (own Set (codes "A64") [] ∷ own Leaf (codes "DUP") [] ∷ [])
    ∷ (own Set (codes "A64") [] ∷ own Group (codes "DUP") [] ∷ own Leaf (codes "RET") [] ∷ [])
    ∷ []

first_label : label three_leaves 0 ≡ codes "DUP#0"
unfolding digits
first_label = refl

second_label : label three_leaves 1 ≡ codes "DUP#1"
unfolding digits
second_label = refl

lone_label : label three_leaves 2 ≡ codes "RET"
unfolding digits
lone_label = refl

shared_name : labelled_leaf three_leaves (codes "DUP") ≡ None
unfolding digits
shared_name = refl

second_leaf : labelled_leaf three_leaves (codes "DUP#1") ≡ Some 1
unfolding digits
second_leaf = refl

no_such_number : labelled_leaf three_leaves (codes "DUP#2") ≡ None
unfolding digits
no_such_number = refl

lone_leaf : labelled_leaf three_leaves (codes "RET") ≡ Some 2
unfolding digits
lone_leaf = refl

lone_leaf_numbered : labelled_leaf three_leaves (codes "RET#2") ≡ None
unfolding digits
lone_leaf_numbered = refl

-- ---- fields

-- `op0` is defined anew by the leaf, and stands there, once; the group's `sf` stays
anew : fields (own Set (codes "A64") (field (codes "op0") 25 (codes "xxxx") ∷ field (codes "sf") 31 (codes "x") ∷ [])
    ∷ own Leaf (codes "l") (bits 28 (codes "1") ∷ field (codes "Rd") 0 (codes "xxxxx") ∷ field (codes "op0") 26 (codes "1x") ∷ []) ∷ [])
    ≡ record { name = codes "sf"; start = 31; width = 1 } ∷ record { name = codes "Rd"; start = 0; width = 5 } ∷ record { name = codes "op0"; start = 26; width = 2 } ∷ []
anew = refl

-- ---- bits

-- the items of all nodes along the path; should-be digits do not show
all_items : merged (own Set (codes "A64") (bits 28 (codes "10x1") ∷ []) ∷ own Leaf (codes "l") (field (codes "Rd") 4 (codes "0x") ∷ should_be_bits 0 (codes "01") ∷ []) ∷ [])
    ≡ Some (digits_in (codes "10x1 xxxx xxxx xxxx xxxx xxxx xx0x xxxx"))
all_items = refl

no_items : merged (own Set (codes "A64") [] ∷ []) ≡ Some (digits_in (codes "xxxxxxxx xxxxxxxx xxxxxxxx xxxxxxxx"))
no_items = refl

-- a bit that is fixed twice to one value, and to two
agreeing : merged (own Set (codes "A64") (bits 0 (codes "01") ∷ []) ∷ own Leaf (codes "l") (bits 0 (codes "x1") ∷ []) ∷ []) ≡ Some (digits_in (codes "xxxxxxxx xxxxxxxx xxxxxxxx xxxxxx01"))
agreeing = refl

clashing : merged (own Set (codes "A64") (bits 0 (codes "01") ∷ []) ∷ own Leaf (codes "l") (bits 0 (codes "11") ∷ []) ∷ []) ≡ None
clashing = refl

-- a should-be digit clashes with none
should_be_beside : merged (own Set (codes "A64") (bits 0 (codes "01") ∷ []) ∷ own Leaf (codes "l") (should_be_bits 0 (codes "11") ∷ []) ∷ []) ≡ Some (digits_in (codes "xxxxxxxx xxxxxxxx xxxxxxxx xxxxxx01"))
should_be_beside = refl

-- ---- a load of the small release

abbrev load : List Own
load = own Set (codes "A64") []
    ∷ own Group (codes "ldst") (bits 27 (codes "1") ∷ bits 25 (codes "0") ∷ [])
    ∷ own Leaf (codes "LDXR_LR64_ldstexclr") (bits 30 (codes "11") ∷ bits 24 (codes "001000") ∷ bits 23 (codes "0") ∷ field (codes "L") 22 (codes "1") ∷ bits 21 (codes "0")
    ∷ should_be_bits 16 (codes "11111") ∷ field (codes "o0") 15 (codes "0") ∷ should_be_bits 10 (codes "11111") ∷ field (codes "Rn") 5 (codes "xxxxx") ∷ field (codes "Rt") 0 (codes "xxxxx") ∷ []) ∷ []

load_fields : fields load ≡ record { name = codes "L"; start = 22; width = 1 } ∷ record { name = codes "o0"; start = 15; width = 1 } ∷ record { name = codes "Rn"; start = 5; width = 5 } ∷ record { name = codes "Rt"; start = 0; width = 5 } ∷ []
load_fields = refl

load_bits : merged load ≡ Some (digits_in (codes "11001000010xxxxx0xxxxxxxxxxxxxxx"))
load_bits = refl

-- ---- limits of an item

last_item : within_limits 63 256 ≡ true
last_item = refl

one_item_too_many : within_limits 64 0 ≡ false
one_item_too_many = refl

one_named_item_too_many : within_limits 0 257 ≡ false
one_named_item_too_many = refl
