-- Laws of items.
use Rattle.std.proofs.Common.{◌≡◌, ◌∙◌, sym, ap, refl, ℕ, suc, ◌+◌, ◌-◌, ◌<◌, ◌≤◌, Bool, cond, List, [], ◌∷◌, length, map, not, Some, None, arith, ◌⊎◌, inl, inr}
use Rattle.std.specs.Bool.{Decides}
use Rattle.std.proofs.lemmas.Bool.{cases_lt, lt-ltb, le-ltb}
use Rattle.std.proofs.lemmas.Bool.Decides.{Decides-like}
use Rattle.spec_bits.specs.Bits.{bit_of, slice}
use Rattle.spec_bits.specs.Pattern.{Digit, value_at}
use Rattle.spec_bits.specs.Item.{Item, chosen_digits, fixed_digits, value_from, fixes, item_holds, HasItemBits}
use Rattle.spec_bits.proofs.BitLaws.{bit_of-slice}
use Rattle.spec_bits.proofs.PatternLaws.{HasFixedBits, pattern_holds-each, value_at-lt}

-- digits that are chosen keep their places
pub length-chosen_digits : (ds : List Digit) (choices : List Bool) → length (chosen_digits ds choices) ≡ length ds
length-chosen_digits [] choices = refl
length-chosen_digits (d ∷ ds) [] = ap suc (length-chosen_digits ds [])
length-chosen_digits (d ∷ ds) (c ∷ cs) = ap suc (length-chosen_digits ds cs)

-- digits at a place of the word fix no bit below it, and above it those of their own
pub value_from-below : (start : ℕ) (ds : List Digit) (i : ℕ) → i < start → value_from start ds i ≡ None
value_from-below start ds i h = ap (λ b. cond b None (value_at ds (i - start))) (lt-ltb i start h)

pub value_from-from : (start : ℕ) (ds : List Digit) (i : ℕ) → start ≤ i → value_from start ds i ≡ value_at ds (i - start)
value_from-from start ds i h = ap (λ b. cond b None (value_at ds (i - start))) (le-ltb i start h)

ItemBits-from : (it : Item) (w : ℕ) → HasFixedBits (fixed_digits it) (slice w it.start (length it.digits)) → HasItemBits it w
ItemBits-from it w h i v s = go (cases_lt i it.start)
  where
    go : (i < it.start) ⊎ (it.start ≤ i) → bit_of w i ≡ v
    go (inl below) = absurd (let none = value_from-below it.start (fixed_digits it) i below in cc)
    go (inr from) =
        let fixed : value_at (fixed_digits it) (i - it.start) ≡ Some v = sym (value_from-from it.start (fixed_digits it) i from) ∙ s in
        let within = value_at-lt (fixed_digits it) (i - it.start) v fixed in
        let wide = length-chosen_digits it.digits (map not it.marks) in
        let place : it.start + (i - it.start) ≡ i = omega arith in
        ap (λ k. bit_of w k) (sym place) ∙ sym (bit_of-slice w it.start (length it.digits) (i - it.start) (omega arith)) ∙ h (i - it.start) v fixed

ItemBits-to : (it : Item) (w : ℕ) → HasItemBits it w → HasFixedBits (fixed_digits it) (slice w it.start (length it.digits))
ItemBits-to it w h k v s =
    let within = value_at-lt (fixed_digits it) k v s in
    let wide = length-chosen_digits it.digits (map not it.marks) in
    let place : it.start + k - it.start ≡ k = omega arith in
    let fixed = value_from-from it.start (fixed_digits it) (it.start + k) (omega arith) ∙ ap (λ j. value_at (fixed_digits it) j) place ∙ s in
    bit_of-slice w it.start (length it.digits) k (omega arith) ∙ h (it.start + k) v fixed

-- an item holds at a word exactly where each bit that it fixes has that value
pub item_holds-each : (it : Item) (w : ℕ) → Decides (item_holds it w) (HasItemBits it w)
item_holds-each it w = Decides-like (item_holds it w) (ItemBits-from it w) (ItemBits-to it w) (pattern_holds-each (fixed_digits it) (slice w it.start (length it.digits)))
