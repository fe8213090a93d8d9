-- Worked values: fields that overlap and are partly fixed, should-be bits in the rest, a path to an alias, and excluded words.
use Rattle.std.specs.Prelude.{◌≡◌, ℕ, List, [], ◌∷◌, true, false, Some, None, Ok, Err, map, filter_map, codes, refl}
use Rattle.spec_bits.specs.Pattern.{Digit}
use Rattle.spec_bits.specs.PatternText.{digit_of}
use Rattle.spec_bits.specs.Item.{Item}
use Rattle.spec_expressions.specs.Expression.{Name, Call, IsFeatureImplemented, exprs_of}
use Rattle.spec_expressions.specs.Scope.{Configuration, Flag}
use Rattle.spec_instructions.specs.Kind.{Group, Leaf, Alias}
use Rattle.spec_instructions.specs.Tree.{Own, bare}
use Rattle.spec_encoding.specs.Parts.{highest, number_of_bits}
use Rattle.spec_encoding.specs.Refusal.{UnknownField, DoubledField, MissingField, TooWide, Clash, FixedBit, RestBit, Excluded}
use Rattle.spec_encoding.specs.PathLayout.{rest_of}
use Rattle.spec_encoding.specs.Encoding.{encoding}

abbrev digits : List ℕ → List Digit
digits text = filter_map digit_of text

abbrev field : List ℕ → ℕ → List ℕ → Item
field name start text = record { name = Some name; start = start; digits = digits text; marks = map (λ _. false) (digits text) }

abbrev bits : ℕ → List ℕ → Item
bits start text = record { name = None; start = start; digits = digits text; marks = map (λ _. false) (digits text) }

abbrev should_be_ones : ℕ → List ℕ → Item
should_be_ones start text = record { name = None; start = start; digits = digits text; marks = map (λ _. true) (digits text) }

abbrev leaf : List Item → Own
leaf items = record (bare Leaf (codes "leaf")) { items = items }

abbrev nothing : Configuration
nothing = record { parameters = []; atoms = [] }

-- ---- `a` and `b` overlap in four bits, and two bits of `c` are fixed

abbrev twin : List Own
twin = record (bare Group (codes "reserved")) { items = bits 31 (codes "0") ∷ bits 25 (codes "0000") ∷ [] }
    ∷ leaf (bits 16 (codes "0000000000000001") ∷ field (codes "c") 12 (codes "xx10") ∷ field (codes "b") 4 (codes "xxxxxxxx") ∷ field (codes "a") 0 (codes "xxxxxxxx") ∷ []) ∷ []

twin_word : encoding twin nothing ((codes "a", 0) ∷ (codes "b", 0) ∷ (codes "c", 2) ∷ []) 0 ≡ Ok 0x0001_2000
unfolding highest number_of_bits
twin_word = refl

-- the highest of the bits that the two fields have apart
twin_clash : encoding twin nothing ((codes "a", 16) ∷ (codes "b", 0) ∷ (codes "c", 2) ∷ []) 0 ≡ Err (Clash 4)
unfolding highest number_of_bits
twin_clash = refl

twin_fixed : encoding twin nothing ((codes "a", 0) ∷ (codes "b", 0) ∷ (codes "c", 0) ∷ []) 0 ≡ Err (FixedBit 13)
unfolding highest number_of_bits
twin_fixed = refl

-- a value that is too wide is told before a clash
twin_wide : encoding twin nothing ((codes "b", 0) ∷ (codes "c", 2) ∷ (codes "a", 272) ∷ []) 0 ≡ Err (TooWide 2)
unfolding highest number_of_bits
twin_wide = refl

twin_doubled : encoding twin nothing ((codes "a", 0) ∷ (codes "b", 0) ∷ (codes "a", 0) ∷ []) 0 ≡ Err (DoubledField 2)
unfolding highest number_of_bits
twin_doubled = refl

twin_missing : encoding twin nothing ((codes "a", 0) ∷ (codes "c", 2) ∷ []) 0 ≡ Err (MissingField (codes "b"))
unfolding highest number_of_bits
twin_missing = refl

twin_rest : encoding twin nothing ((codes "a", 0) ∷ (codes "b", 0) ∷ (codes "c", 2) ∷ []) 0x0001_0000 ≡ Err (RestBit 16)
unfolding highest number_of_bits
twin_rest = refl

-- ---- a load with two fields of should-be ones

abbrev load : List Own
load = record (bare Group (codes "ldst")) { items = bits 27 (codes "1") ∷ bits 25 (codes "0") ∷ [] }
    ∷ leaf (bits 30 (codes "11") ∷ bits 24 (codes "001000") ∷ bits 23 (codes "0") ∷ field (codes "L") 22 (codes "1") ∷ bits 21 (codes "0") ∷ should_be_ones 16 (codes "11111") ∷ field (codes "o0") 15 (codes "0")
    ∷ should_be_ones 10 (codes "11111") ∷ field (codes "Rn") 5 (codes "xxxxx") ∷ field (codes "Rt") 0 (codes "xxxxx") ∷ []) ∷ []

-- the rest turns should-be bits over
load_word : encoding load nothing ((codes "Rn", 1) ∷ (codes "Rt", 0) ∷ []) 0x001f_0000 ≡ Ok 0xc840_7c20
unfolding highest number_of_bits
load_word = refl

load_defaults : encoding load nothing ((codes "Rn", 1) ∷ (codes "Rt", 0) ∷ []) 0 ≡ Ok 0xc85f_7c20
unfolding highest number_of_bits
load_defaults = refl

load_rest : rest_of load 0xc840_7c20 ≡ 0x001f_0000
unfolding number_of_bits
load_rest = refl

-- ---- a path to an alias, which fixes `Rn`

abbrev moved : List Own
moved = leaf (bits 10 (codes "1010101000000000000000") ∷ field (codes "Rn") 5 (codes "xxxxx") ∷ field (codes "Rd") 0 (codes "xxxxx") ∷ [])
    ∷ record (bare Alias (codes "mov")) { items = field (codes "Rn") 5 (codes "11111") ∷ [] } ∷ []

moved_word : encoding moved nothing ((codes "Rd", 3) ∷ []) 0 ≡ Ok 0xaa00_03e3
unfolding highest number_of_bits
moved_word = refl

-- a field whose bits are all fixed is not shown
moved_hidden : encoding moved nothing ((codes "Rd", 3) ∷ (codes "Rn", 31) ∷ []) 0 ≡ Err (UnknownField 1)
unfolding highest number_of_bits
moved_hidden = refl

-- ---- excluded words

abbrev featured : List Own
featured = bare Group (codes "g") ∷ record (bare Leaf (codes "featured")) { items = bits 0 (codes "00000000000000000000000000000000") ∷ []; condition = Some (Call IsFeatureImplemented (exprs_of (Name (codes "FEAT_A") ∷ []))) } ∷ []

abbrev without : Configuration
without = record { parameters = record { name = codes "FEAT_A"; state = Flag false } ∷ []; atoms = [] }

-- a condition that is Open does not exclude, and one that is No does
featured_open : encoding featured nothing [] 0 ≡ Ok 0
unfolding highest number_of_bits
featured_open = refl

featured_no : encoding featured without [] 0 ≡ Err (Excluded 1)
unfolding highest number_of_bits
featured_no = refl

-- two items that clash: the word is made by the first, and the second does not hold
clashing : encoding (bare Group (codes "g") ∷ leaf (bits 0 (codes "00000000000000000000000000000000") ∷ bits 4 (codes "1") ∷ []) ∷ []) nothing [] 0 ≡ Err (Excluded 1)
unfolding highest number_of_bits
clashing = refl
