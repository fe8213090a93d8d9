-- A word holds at all items along a path exactly where it holds of what they fix together.
use Rattle.std.proofs.Common.{◌≡◌, ◌∙◌, sym, ap, refl, ℕ, zero, suc, ◌+◌, ◌-◌, ◌/◌, ◌%◌, ◌^◌, Bool, true, false, ◌&&◌, not, List, [], ◌∷◌, ◌++◌, length, map, Option, Some, None, option_and_then, replicate, All, arith, length-append}
use Rattle.std.specs.List.{list_all}
use Rattle.std.proofs.lemmas.Nat.{shr-shr}
use Rattle.std.proofs.lemmas.List.{length-replicate}
use Rattle.std.proofs.lemmas.List.Elements.{All-head, All-tail}
use Rattle.spec_bits.specs.Bits.{bit_of}
use Rattle.spec_bits.specs.Pattern.{Digit, Either, digit_holds, pattern_holds, joined}
use Rattle.spec_bits.specs.Item.{Item, fixed_digits, item_holds}
use Rattle.spec_bits.proofs.PatternLaws.{joined-none, length-joined, pattern_holds-joined, pattern_holds-each, pattern_holds-mod}
use Rattle.spec_bits.proofs.ItemLaws.{length-chosen_digits}
use Rattle.spec_instructions.specs.Fields.{word_digits, joined_items, IsWithinWord}
use Rattle.spec_instructions.proofs.MergedLaws.{length-word_digits}

-- ---- digits at a place

and_both : (x y : Bool) → (x ≡ true → y ≡ true → ⊥) → (x && y) ≡ false
and_both true true h = absurd (h refl refl)
and_both true false h = refl
and_both false y h = refl

and_group : (x y z : Bool) → (x && (y && z)) ≡ ((x && y) && z)
and_group true y z = refl
and_group false y z = refl

and_true : (x : Bool) → (x && true) ≡ x
and_true true = refl
and_true false = refl

-- digits before others stand for the higher bits
holds-append : (ds es : List Digit) (w : ℕ) → pattern_holds (ds ++ es) w ≡ (pattern_holds ds (w / 2 ^ length es) && pattern_holds es w)
holds-append [] es w = refl
holds-append (d ∷ ds) es w =
    let count : length (ds ++ es) ≡ length es + length ds = omega (arith, length-append ds es) in
    let bit : bit_of w (length (ds ++ es)) ≡ bit_of (w / 2 ^ length es) (length ds) = ap (bit_of w) count ∙ sym (ap (λ x. x % 2) (shr-shr w (length es) (length ds))) in
    ap (λ b. digit_holds d b && pattern_holds (ds ++ es) w) bit
    ∙ ap (λ b. digit_holds d (bit_of (w / 2 ^ length es) (length ds)) && b) (holds-append ds es w)
    ∙ and_group (digit_holds d (bit_of (w / 2 ^ length es) (length ds))) (pattern_holds ds (w / 2 ^ length es)) (pattern_holds es w)

holds-either : (n w : ℕ) → pattern_holds (replicate n Either) w ≡ true
holds-either zero w = refl
holds-either (suc n) w = holds-either n w

-- an item's digits at their place hold where the item does
holds-word : (it : Item) (w : ℕ) → pattern_holds (word_digits it) w ≡ item_holds it w
holds-word it w =
    let fixed = fixed_digits it in
    let low = replicate it.start Either in
    let count : length low ≡ it.start = length-replicate it.start Either in
    let wide = length-chosen_digits it.digits (map not it.marks) in
    holds-append (replicate (32 - (it.start + length it.digits)) Either) (fixed ++ low) w
    ∙ ap (λ b. b && pattern_holds (fixed ++ low) w) (holds-either (32 - (it.start + length it.digits)) (w / 2 ^ length (fixed ++ low)))
    ∙ holds-append fixed low w
    ∙ ap (λ b. pattern_holds fixed (w / 2 ^ length low) && b) (holds-either it.start w)
    ∙ and_true (pattern_holds fixed (w / 2 ^ length low))
    ∙ ap (λ n. pattern_holds fixed (w / 2 ^ n)) count
    ∙ sym (pattern_holds-mod fixed (w / 2 ^ it.start) (length it.digits) (omega (arith, wide)))

-- ---- digits joined

-- digits that clash do not both hold
clash-holds : (ds es : List Digit) (w : ℕ) → length ds ≡ length es → joined ds es ≡ None → (pattern_holds ds w && pattern_holds es w) ≡ false
clash-holds ds es w lens none =
    let c = joined-none ds es lens none in
    and_both (pattern_holds ds w) (pattern_holds es w)
    (λ left right. c.differ (sym ((pattern_holds-each ds w).0 left c.at c.left c.is_left) ∙ (pattern_holds-each es w).0 right c.at c.right c.is_right))

-- no word holds of digits that clash
abbrev pub holds_of : Option (List Digit) → ℕ → Bool
holds_of None w = false
holds_of (Some ds) w = pattern_holds ds w

-- what is known of items that are joined
pub record Joined (w : ℕ) (items : List Item) (o : Option (List Digit)) : Type 0 where
  pub holds : holds_of o w ≡ list_all (λ it. item_holds it w) items
  pub wide : (ds : List Digit) → o ≡ Some ds → length ds ≡ 32

and_false : (x : Bool) → false ≡ (x && false)
and_false true = refl
and_false false = refl

joined-step : (w : ℕ) (it : Item) (items : List Item) → IsWithinWord it → (o : Option (List Digit)) → Joined w items o → Joined w (it ∷ items) (option_and_then (joined (word_digits it)) o)
joined-step w it items fits None h = record {
  holds = and_false (item_holds it w) ∙ ap (λ b. item_holds it w && b) h.holds;
  wide = λ ds e. absurd (cc);
}
joined-step w it items fits (Some ds) h = go (joined (word_digits it) ds) refl
  where
    same : length (word_digits it) ≡ length ds
    same = length-word_digits it fits ∙ sym (h.wide ds refl)

    both : (pattern_holds (word_digits it) w && pattern_holds ds w) ≡ list_all (λ it. item_holds it w) (it ∷ items)
    both = ap (λ b. b && pattern_holds ds w) (holds-word it w) ∙ ap (λ b. item_holds it w && b) h.holds

    go : (o : Option (List Digit)) → joined (word_digits it) ds ≡ o → Joined w (it ∷ items) o
    go None e = record { holds = sym (clash-holds (word_digits it) ds w same e) ∙ both; wide = λ es z. absurd (cc) }
    go (Some js) e = record {
      holds = pattern_holds-joined (word_digits it) ds js w e ∙ both;
      wide = λ es z. let is : js ≡ es = cc in ap length (sym is) ∙ (length-joined (word_digits it) ds js e).0 ∙ length-word_digits it fits;
    }

pub joined-all : (w : ℕ) (items : List Item) → All IsWithinWord items → Joined w items (joined_items items)
joined-all w [] fit = record { holds = holds-either 32 w; wide = λ ds e. let is : replicate 32 Either ≡ ds = cc in ap length (sym is) ∙ length-replicate 32 Either }
joined-all w (it ∷ items) fit = joined-step w it items (All-head IsWithinWord it items fit) (joined_items items) (joined-all w items (All-tail IsWithinWord it items fit))
