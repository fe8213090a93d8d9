-- Laws of the texts of patterns.
use Rattle.std.proofs.Common.{◌≡◌, ap, refl, ℕ, ◌+◌, ◌-◌, ◌≤◌, Bool, true, false, ◌&&◌, cond, nat_lt, nat_le, ◌==◌, List, length, slice_range, Option, Some, None, Ok, Err, option_map, arith}
use Rattle.std.specs.Prelude.{position, filter_map}
use Rattle.std.proofs.lemmas.Bool.{ltb-false, eqb-false}
use Rattle.spec_bits.specs.Pattern.{Digit}
use Rattle.spec_bits.specs.PatternText.{Empty, TooWide, Unquoted, digit_of, is_foreign, digits_judged, unquoted, opens, closes, pattern_in}

-- a pattern has 1 to 128 digits
abbrev pub IsPattern : List Digit → Type 0
IsPattern ds = (1 ≤ length ds) × (length ds ≤ 128)

judged-Ok : (foreign : Option ℕ) (found ds : List Digit) → digits_judged foreign found ≡ Ok ds → IsPattern ds
judged-Ok (Some at) found ds h = absurd (cc)
judged-Ok None found ds h = go (nat_lt 128 (length found)) refl (length found == 0) refl h
  where
    go : (wide : Bool) → nat_lt 128 (length found) ≡ wide → (empty : Bool) → (length found == 0) ≡ empty → cond wide (Err TooWide) (cond empty (Err Empty) (Ok found)) ≡ Ok ds → IsPattern ds
    go true p e q k = absurd (cc)
    go false p true q k = absurd (cc)
    go false p false q k =
        let same : found ≡ ds = cc in
        let few = ltb-false 128 (length found) p in
        let some = eqb-false (length found) 0 q in
        let len = ap length same in
        (omega arith, omega arith)

unquoted-Ok : (start : ℕ) (bytes : List ℕ) (ds : List Digit) → unquoted start bytes ≡ Ok ds → IsPattern ds
unquoted-Ok start bytes ds h = judged-Ok (option_map (λ k. start + k) (position is_foreign bytes)) (filter_map digit_of bytes) ds h

-- what is read is a pattern
pub pattern_in-Ok : (text : List ℕ) (ds : List Digit) → pattern_in text ≡ Ok ds → IsPattern ds
pattern_in-Ok text ds h = go (opens text) (closes text) (nat_le 2 (length text)) h
  where
    go : (o c l : Bool) → cond o (cond (l && c) (unquoted 1 (slice_range text 1 (length text - 1))) (Err (Unquoted 0))) (cond c (Err (Unquoted (length text - 1))) (unquoted 0 text)) ≡ Ok ds → IsPattern ds
    go true true true k = unquoted-Ok 1 (slice_range text 1 (length text - 1)) ds k
    go true c false k = absurd (cc)
    go true false true k = absurd (cc)
    go false true l k = absurd (cc)
    go false false l k = unquoted-Ok 0 text ds k
