-- Items of an instruction's encoding: digits at a place of the word, some of them marked as should-be.
-- A should-be bit is one that encoding diagrams of the Arm Architecture Reference Manual (DDI 0487) write `(0)` or `(1)`; here such a bit never excludes a word.
use Rattle.std.specs.Prelude.{◌≡◌, ◌↔◌, ℕ, ◌-◌, Bool, true, not, nat_lt, List, [], ◌∷◌, length, map, Option, Some, None, if◌then◌else◌}
use Rattle.spec_bits.specs.Bits.{bit_of, slice}
use Rattle.spec_bits.specs.Pattern.{Digit, Either, pattern_holds, value_at}

-- the digits stand in the word from bit `start` up, with one mark for each; the name is its bytes
pub record Item : Type 0 where
  pub name : Option (List ℕ)
  pub start : ℕ
  pub digits : List Digit
  pub marks : List Bool

-- the digits at which the list of choices says true, and `x` in place of the others
abbrev pub chosen_digits : List Digit → List Bool → List Digit
chosen_digits [] choices = []
chosen_digits (d ∷ ds) [] = Either ∷ chosen_digits ds []
chosen_digits (d ∷ ds) (c ∷ cs) = (if c then d else Either) ∷ chosen_digits ds cs

-- the digits that fix their bits, which are those not marked, and the should-be digits, which are the marked ones
abbrev pub fixed_digits : Item → List Digit
fixed_digits it = chosen_digits it.digits (map not it.marks)

abbrev pub should_be_digits : Item → List Digit
should_be_digits it = chosen_digits it.digits it.marks

-- the value to which digits that stand from bit `start` up fix bit i
abbrev pub value_from : ℕ → List Digit → ℕ → Option ℕ
value_from start ds i = if nat_lt i start then None else value_at ds (i - start)

-- the value to which an item fixes bit i of the word, and the value that the bit should have by the item
abbrev pub fixes : Item → ℕ → Option ℕ
fixes it i = value_from it.start (fixed_digits it) i

abbrev pub should_be : Item → ℕ → Option ℕ
should_be it i = value_from it.start (should_be_digits it) i

-- an item holds at a word: its digits that fix their bits hold of the word's bits at its place
abbrev pub item_holds : Item → ℕ → Bool
item_holds it w = pattern_holds (fixed_digits it) (slice w it.start (length it.digits))

-- ---- what this comes to

-- each bit that an item fixes has that value in the word
abbrev pub HasItemBits : Item → ℕ → Type 0
HasItemBits it w = (i v : ℕ) → fixes it i ≡ Some v → bit_of w i ≡ v

-- an item holds at a word exactly where each bit that it fixes has that value
abbrev pub ItemsHoldByBits : Type 0
ItemsHoldByBits = (it : Item) (w : ℕ) → (item_holds it w ≡ true) ↔ HasItemBits it w
