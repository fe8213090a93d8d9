-- The digits of a number, written from the last one on into 16 places.
use Rattle.std.proofs.Common.{◌≡◌, ℕ, zero, suc, ◌+◌, ◌-◌, ◌*◌, ◌/◌, ◌%◌, ◌^◌, ◌<◌, ◌≤◌, List, [], ◌∷◌, ◌++◌, length, drop, get_or, Bool, true, false, ◌&&◌, nat_eq, nat_lt, nat_le, refl, sym, ap, ◌∙◌, arith, append_assoc, append-nil, true≢false}
use Rattle.std.proofs.lemmas.Bool.Decides.{nat_tests}
use Rattle.std.proofs.lemmas.List.{drop-set, length-set}
use Rattle.std.proofs.Math.ListN.{drop_of_length-le}
use Rattle.std.proofs.Math.Nat.{pow-succ'}
use Rattle.std.specs.Prelude.{codes, slice_index_or, slice_set}
use Rattle.std.specs.List.{list_all, range_with_len}
use Rattle.std.proofs.lemmas.List.Folds.{list_all_at}
use Rattle.std.proofs.lemmas.List.FromFn.{get_or-range_with_len}
use Rattle.std.specs.Fmt.{digit_glyph}
use Rattle.spec_lines.specs.Hex.{hex}
use Rattle.spec_lines.proofs.Digits.{hex_one, hex_more}

-- what is left of a number, and of its width, is written in front of the digits that stand from `start` on
pub record Written (text : List ℕ) (start rest left n width : ℕ) : Type 0 where
  pub room : length text ≡ 16
  pub within : start ≤ 16
  pub some : 1 ≤ start
  pub few : left ≤ start
  pub small : rest < 16 ^ start
  pub digits : hex left rest ++ drop start text ≡ hex width n

pub written_start : (text : List ℕ) (n width : ℕ) → length text ≡ 16 → n < 2 ^ 64 → width ≤ 16 → Written text 16 n width n width
written_start text n width room low le =
    let none : drop 16 text ≡ [] = drop_of_length-le text {i = 16} (omega (arith, room)) in record {
      room = room;
      within = omega arith;
      some = omega arith;
      few = le;
      small = low;
      digits = ap (λ end. hex width n ++ end) none ∙ append-nil (hex width n);
    }

-- a digit in the place before those that are written
placed : (text : List ℕ) (start digit : ℕ) → 1 ≤ start → start ≤ length text → drop (start - 1) (slice_set text (start - 1) digit) ≡ digit ∷ drop start text
placed text start digit some within =
    let place : start - 1 < length text = omega arith in
    let next : start - 1 + 1 ≡ start = omega arith in
    drop-set text (start - 1) digit place ∙ ap (λ k. digit ∷ drop k text) next

small_next : (start rest : ℕ) → 1 ≤ start → rest < 16 ^ start → rest / 16 < 16 ^ (start - 1)
small_next zero rest some h = absurd (omega arith)
small_next (suc k) rest some h =
    let e : rest < 16 * 16 ^ k = rw (pow-succ' 16 k) at h in
    let same : suc k - 1 ≡ k = omega arith in
    rw same (omega arith)

-- with one place left, the number and the width allow one digit
one_place : (rest left : ℕ) → rest < 16 → left ≤ 1 → (nat_lt rest 16 && nat_le left 1) ≡ true
one_place rest left small few = grind (arith, nat_tests)

more_room : (start rest left : ℕ) → 1 ≤ start → left ≤ start → rest < 16 ^ start → (nat_lt rest 16 && nat_le left 1) ≡ false → 1 ≤ start - 1
more_room zero rest left some few small test = absurd (omega arith)
more_room (suc zero) rest left some few small test = absurd (true≢false (sym (one_place rest left small few) ∙ test))
more_room (suc (suc k)) rest left some few small test = omega arith

module _ (text : List ℕ) (start rest left n width : ℕ) (low : rest < 2 ^ 64) (h : Written text start rest left n width) where
  abbrev digit : ℕ
  digit = digit_glyph false (rest % 16)

  here : drop (start - 1) (slice_set text (start - 1) digit) ≡ digit ∷ drop start text
  here = placed text start digit h.some (omega (arith, h.room, h.within))

  -- one more digit
  pub written_next : (nat_lt rest 16 && nat_le left 1) ≡ false → Written (slice_set text (start - 1) digit) (start - 1) (rest / 16) (left - 1) n width
  written_next test = record {
    room = length-set text (start - 1) digit ∙ h.room;
    within = omega (arith, h.within);
    some = more_room start rest left h.some h.few h.small test;
    few = omega (arith, h.few);
    small = small_next start rest h.some h.small;
    digits =
        ap (λ end. hex (left - 1) (rest / 16) ++ end) here
        ∙ sym (append_assoc (hex (left - 1) (rest / 16)) (digit ∷ []) (drop start text))
        ∙ ap (λ front. front ++ drop start text) (sym (hex_more rest left low test))
        ∙ h.digits;
  }

  -- the last one
  pub written_last : (nat_lt rest 16 && nat_le left 1) ≡ true → drop (start - 1) (slice_set text (start - 1) digit) ≡ hex width n
  written_last test = here ∙ ap (λ front. front ++ drop start text) (sym (hex_one rest left test)) ∙ h.digits

-- ---- the digits as a table

abbrev table : List ℕ
table = codes "0123456789abcdef"

abbrev is_in_place : ℕ → Bool
is_in_place r = nat_eq (slice_index_or table r 0) (digit_glyph false r)

pub digit_in_place : (r : ℕ) → r < 16 → slice_index_or table r 0 ≡ digit_glyph false r
digit_in_place r h = go (is_in_place r) refl
  where
    there : (b : Bool) → is_in_place r ≡ b → is_in_place (get_or (range_with_len 0 16) r 0) ≡ b
    there b e = let same : 0 + r ≡ r = omega arith in ap is_in_place (get_or-range_with_len 0 16 r 0 h ∙ same) ∙ e

    go : (b : Bool) → is_in_place r ≡ b → slice_index_or table r 0 ≡ digit_glyph false r
    go true e = grind (arith, nat_tests)
    go false e = let all : true ≡ list_all is_in_place (range_with_len 0 16) = refl in absurd (true≢false (all ∙ list_all_at is_in_place (range_with_len 0 16) r 0 h (there false e)))
