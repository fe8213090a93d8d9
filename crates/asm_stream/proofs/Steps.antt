-- Lines so far, with more bytes.
use Rattle.std.proofs.Common.{◌≡◌, ℕ, suc, ◌+◌, ◌<◌, ◌≤◌, Bool, true, false, cond, nat_lt, List, [], ◌∷◌, ◌++◌, length, take, drop, Some, None, refl, sym, ap, ◌∙◌, subst, arith, append-nil, append_assoc, length-append}
use Rattle.std.specs.Prelude.{◌==◌}
use Rattle.spec_decode.specs.Machine.{Machine}
use Rattle.spec_lines.specs.LineFault.{Long}
use Rattle.spec_lines.specs.Parsed.{line_limit}
use Rattle.spec_lines.specs.Assembly.{BadLine, Assembled, assembled_from, assembled, lines_in}
use Rattle.spec_lines.specs.Cut.{Cut, cut, before_whole, judged_open, assembled_cut}
use Rattle.spec_lines.proofs.CutLaws.{with_more, cut-append, lines-cut, open_line, followed, assembled-append, long_behind, judged, not_judged, cut_stays}
use Rattle.asm_stream.specs.Lines.{HasNoEnd}
use Rattle.asm_stream.specs.SoFar.{SoFar, Refuses}

-- ---- bytes without an LF

pub cut_plain : (xs : List ℕ) → HasNoEnd xs → cut xs ≡ record { whole = []; left = xs }
cut_plain [] none = refl
cut_plain (byte ∷ xs) none = go (byte == 10) refl (cut_plain xs (λ k low high. none (suc k) (omega arith) (omega arith)))
  where
    go : (b : Bool) → (byte == 10) ≡ b → cut xs ≡ record { whole = []; left = xs }
        → cond {A = Cut} b (record { whole = [] ∷ (cut xs).whole; left = (cut xs).left }) (before_whole byte (cut xs).whole (cut xs).left) ≡ record { whole = []; left = byte ∷ xs }
    go true is e = absurd (none 0 (omega arith) (omega arith) is)
    go false is e = rw e refl

cut_ended : (line : List ℕ) → HasNoEnd line → cut (line ++ 10 ∷ []) ≡ record { whole = line ∷ []; left = [] }
cut_ended line none =
    cut-append line (10 ∷ []) ∙ ap (λ c. with_more c ([] ∷ []) []) (cut_plain line none) ∙ ap (λ l. record { whole = l ∷ []; left = [] }) (append-nil line)

-- there are no more lines than bytes
counted_before : (is : Bool) (byte : ℕ) (whole : List (List ℕ)) (left : List ℕ) (n : ℕ) → length whole ≤ n → length (cond {A = Cut} is (record { whole = [] ∷ whole; left = left }) (before_whole byte whole left)).whole ≤ suc n
counted_before true byte whole left n few = omega arith
counted_before false byte [] left n few = omega arith
counted_before false byte (line ∷ whole) left n few = omega arith

pub whole_count : (xs : List ℕ) → length (cut xs).whole ≤ length xs
whole_count [] = omega arith
whole_count (byte ∷ xs) = counted_before _ byte (cut xs).whole (cut xs).left (length xs) (whole_count xs)

-- ---- steps

pub so_far_start : (m : Machine) → SoFar m [] 1 [] []
so_far_start m = record { number_is = refl; left_is = refl; short = omega arith; words = refl }

module _ (m : Machine) (done : List ℕ) (number : ℕ) (left bytes : List ℕ) (s : SoFar m done number left bytes) where
  grown : (more : List ℕ) → HasNoEnd more → cut (done ++ more) ≡ record { whole = (cut done).whole; left = left ++ more }
  grown more none = cut-append done more ∙ ap (λ c. with_more (cut done) c.whole c.left) (cut_plain more none) ∙ ap (λ l. record { whole = (cut done).whole; left = l ++ more }) (sym s.left_is)

  ended : (line : List ℕ) → HasNoEnd line → cut (done ++ (line ++ 10 ∷ [])) ≡ record { whole = (cut done).whole ++ ((left ++ line) ∷ []); left = [] }
  ended line none = cut-append done (line ++ 10 ∷ []) ∙ ap (λ c. with_more (cut done) c.whole c.left) (cut_ended line none) ∙ ap (λ l. record { whole = (cut done).whole ++ ((l ++ line) ∷ []); left = [] }) (sym s.left_is)

  none_refused : (assembled_from 1 m (cut done).whole).refused ≡ None
  none_refused = ap (λ a. a.refused) s.words

  -- lines behind those so far
  pub behind : (lines : List (List ℕ)) → assembled_from 1 m ((cut done).whole ++ lines) ≡ followed None bytes (assembled_from number m lines)
  behind lines =
      assembled-append 1 m (cut done).whole lines ∙ ap (λ a. followed a.refused a.bytes (assembled_from (1 + length (cut done).whole) m lines)) s.words
      ∙ ap (λ n. followed None bytes (assembled_from n m lines)) (sym s.number_is)

  pub goes_on : (more : List ℕ) → HasNoEnd more → length (left ++ more) ≤ line_limit → SoFar m (done ++ more) number (left ++ more) bytes
  goes_on more none short =
      let e = grown more none in record {
        number_is = s.number_is ∙ ap (λ c. 1 + length c.whole) (sym e);
        left_is = ap (λ c. c.left) (sym e);
        short = short;
        words = ap (λ c. assembled_from 1 m c.whole) e ∙ s.words;
      }

  pub too_long : (more : List ℕ) → HasNoEnd more → line_limit < length (left ++ more) → Refuses m (done ++ more) (record { number = number; fault = record { at = line_limit; why = Long } }) bytes
  too_long more none long =
      ap (assembled_cut m) (grown more none)
      ∙ ap (λ last. assembled_from 1 m ((cut done).whole ++ last)) (judged (left ++ more) long)
      ∙ long_behind m (cut done).whole [] (left ++ more) none_refused long
      ∙ ap (λ a. record { bytes = a.bytes; refused = Some (record { number = 1 + length (cut done).whole; fault = record { at = line_limit; why = Long } }) }) s.words
      ∙ ap (λ n. record { bytes = bytes; refused = Some (record { number = n; fault = record { at = line_limit; why = Long } }) }) (sym s.number_is)

  pub line_ends : (line words : List ℕ) → HasNoEnd line → assembled_from number m ((left ++ line) ∷ []) ≡ record { bytes = words; refused = None } → SoFar m (done ++ (line ++ 10 ∷ [])) (number + 1) [] (bytes ++ words)
  line_ends line words none says =
      let e = ended line none in record {
        number_is =
            let n : number + 1 ≡ 1 + length ((cut done).whole ++ ((left ++ line) ∷ [])) = omega (arith, s.number_is, length-append (cut done).whole ((left ++ line) ∷ [])) in
            n ∙ ap (λ c. 1 + length c.whole) (sym e);
        left_is = ap (λ c. c.left) (sym e);
        short = omega arith;
        words = ap (λ c. assembled_from 1 m c.whole) e ∙ behind ((left ++ line) ∷ []) ∙ ap (followed None bytes) says;
      }

  pub line_refused : (line : List ℕ) (bad : BadLine) → HasNoEnd line → assembled_from number m ((left ++ line) ∷ []) ≡ record { bytes = []; refused = Some bad } → Refuses m (done ++ (line ++ 10 ∷ [])) bad bytes
  line_refused line bad none says =
      ap (assembled_cut m) (ended line none)
      ∙ ap (assembled_from 1 m) (append-nil ((cut done).whole ++ ((left ++ line) ∷ [])))
      ∙ behind ((left ++ line) ∷ []) ∙ ap (followed None bytes) says
      ∙ ap (λ out. record { bytes = out; refused = Some bad }) (append-nil bytes)

  -- ---- the end

  last_open : (left : List ℕ) → assembled_from number m (open_line left) ≡ assembled_from number m (left ∷ [])
  last_open [] = refl
  last_open (byte ∷ left) = refl

  pub all_lines : assembled m done ≡ followed None bytes (assembled_from number m (left ∷ []))
  all_lines =
      ap (assembled_from 1 m) (lines-cut done) ∙ behind (open_line (cut done).left)
      ∙ ap (λ l. followed None bytes (assembled_from number m (open_line l))) (sym s.left_is) ∙ ap (followed None bytes) (last_open left)

  pub no_more : assembled_cut m (cut done) ≡ record { bytes = bytes; refused = None }
  no_more =
      let short : length (cut done).left ≤ line_limit = subst (λ l. length l ≤ line_limit) s.left_is s.short in
      ap (λ last. assembled_from 1 m ((cut done).whole ++ last)) (not_judged (cut done).left short) ∙ ap (assembled_from 1 m) (append-nil (cut done).whole) ∙ s.words

-- a line that is refused stays so
pub refusal_stays : (m : Machine) (done more : List ℕ) (bad : BadLine) (bytes : List ℕ) → Refuses m done bad bytes → Refuses m (done ++ more) bad bytes
refusal_stays m done more bad bytes is = cut_stays m done bad (ap (λ a. a.refused) is) more ∙ is
