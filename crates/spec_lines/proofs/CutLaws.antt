-- Lines of streams in two parts, and what lines in two parts are assembled to.
use Rattle.std.proofs.Common.{◌≡◌, ℕ, suc, ◌+◌, ◌<◌, ◌≤◌, Bool, true, false, cond, nat_lt, List, [], ◌∷◌, ◌++◌, length, Option, Some, None, Result, Ok, Err, inl, inr, refl, sym, ap, ◌∙◌, arith, append-nil, append_assoc, length-append, add-zero}
use Rattle.std.proofs.lemmas.Bool.{cases_lt}
use Rattle.std.proofs.lemmas.Bool.Decides.{nat_tests}
use Rattle.std.specs.Int.{w32, to_le_bytes}
use Rattle.spec_decode.specs.Machine.{Machine}
use Rattle.spec_lines.specs.LineFault.{LineFault, Long, refused}
use Rattle.spec_lines.specs.Parsed.{line_limit, parsed}
use Rattle.spec_lines.specs.Assembly.{BadLine, Assembled, lines_in, before_lines, before_assembled, assembled_from, assembled}
use Rattle.spec_lines.specs.Cut.{Cut, cut, before_whole, judged_open, assembled_cut}

-- ---- a stream in two parts

-- what lines and open bytes come to behind those of an earlier part
abbrev pub with_more : Cut → List (List ℕ) → List ℕ → Cut
with_more a [] left = record { whole = a.whole; left = a.left ++ left }
with_more a (line ∷ lines) left = record { whole = a.whole ++ ((a.left ++ line) ∷ lines); left = left }

nothing_before : (lines : List (List ℕ)) (left : List ℕ) → with_more (record { whole = []; left = [] }) lines left ≡ record { whole = lines; left = left }
nothing_before [] left = refl
nothing_before (line ∷ lines) left = refl

one_before : (is : Bool) (byte : ℕ) (whole : List (List ℕ)) (left : List ℕ) (lines : List (List ℕ)) (more_left : List ℕ) (all : Cut) → all ≡ with_more (record { whole = whole; left = left }) lines more_left
    → cond is (record { whole = [] ∷ all.whole; left = all.left }) (before_whole byte all.whole all.left)
    ≡ with_more (cond {A = Cut} is (record { whole = [] ∷ whole; left = left }) (before_whole byte whole left)) lines more_left
one_before true byte whole left [] more_left all e = rw e refl
one_before true byte whole left (line ∷ lines) more_left all e = rw e refl
one_before false byte [] left [] more_left all e = rw e refl
one_before false byte [] left (line ∷ lines) more_left all e = rw e refl
one_before false byte (first ∷ whole) left [] more_left all e = rw e refl
one_before false byte (first ∷ whole) left (line ∷ lines) more_left all e = rw e refl

pub cut-append : (xs ys : List ℕ) → cut (xs ++ ys) ≡ with_more (cut xs) (cut ys).whole (cut ys).left
cut-append [] ys = sym (nothing_before (cut ys).whole (cut ys).left)
cut-append (byte ∷ xs) ys = one_before _ byte (cut xs).whole (cut xs).left (cut ys).whole (cut ys).left (cut (xs ++ ys)) (cut-append xs ys)

whole_of_more : (a : Cut) (lines : List (List ℕ)) (left : List ℕ) → (more : List (List ℕ)) × ((with_more a lines left).whole ≡ a.whole ++ more)
whole_of_more a [] left = ([], sym (append-nil a.whole))
whole_of_more a (line ∷ lines) left = ((a.left ++ line) ∷ lines, refl)

-- the lines that are ended in a first part are the first of all
pub whole-front : (xs ys : List ℕ) → (more : List (List ℕ)) × ((cut (xs ++ ys)).whole ≡ (cut xs).whole ++ more)
whole-front xs ys = let h = whole_of_more (cut xs) (cut ys).whole (cut ys).left in (h.0, ap (λ c. c.whole) (cut-append xs ys) ∙ h.1)

-- ---- all lines of a stream

-- the line that is left open, if any byte is
abbrev pub open_line : List ℕ → List (List ℕ)
open_line [] = []
open_line (byte ∷ left) = (byte ∷ left) ∷ []

one_of_lines : (is : Bool) (byte : ℕ) (whole : List (List ℕ)) (left : List ℕ) (all : List (List ℕ)) → all ≡ whole ++ open_line left
    → cond is ([] ∷ all) (before_lines byte all)
    ≡ (cond {A = Cut} is (record { whole = [] ∷ whole; left = left }) (before_whole byte whole left)).whole ++ open_line (cond {A = Cut} is (record { whole = [] ∷ whole; left = left }) (before_whole byte whole left)).left
one_of_lines true byte whole left all e = rw e refl
one_of_lines false byte [] [] all e = rw e refl
one_of_lines false byte [] (first ∷ left) all e = rw e refl
one_of_lines false byte (line ∷ whole) left all e = rw e refl

pub lines-cut : (xs : List ℕ) → lines_in xs ≡ (cut xs).whole ++ open_line (cut xs).left
lines-cut [] = refl
lines-cut (byte ∷ xs) = one_of_lines _ byte (cut xs).whole (cut xs).left (lines_in xs) (lines-cut xs)

pub lines-front : (xs ys : List ℕ) → (more : List (List ℕ)) × (lines_in (xs ++ ys) ≡ (cut xs).whole ++ more)
lines-front xs ys =
    let front = whole-front xs ys in
    (front.0 ++ open_line (cut (xs ++ ys)).left, lines-cut (xs ++ ys) ∙ ap (λ lines. lines ++ open_line (cut (xs ++ ys)).left) front.1 ∙ append_assoc (cut xs).whole _ _)

-- ---- lines in two parts

-- what later lines are assembled to counts where no earlier line is refused
abbrev pub followed : Option BadLine → List ℕ → Assembled → Assembled
followed None bytes later = record { bytes = bytes ++ later.bytes; refused = later.refused }
followed (Some bad) bytes later = record { bytes = bytes; refused = Some bad }

word_before : (number w : ℕ) (bad : Option BadLine) (bytes : List ℕ) (later all : Assembled) → all ≡ followed bad bytes later
    → before_assembled number (Ok w) all ≡ followed bad (to_le_bytes w32 w ++ bytes) later
word_before number w None bytes later all e = rw e (ap (λ out. record { bytes = out; refused = later.refused }) (sym (append_assoc (to_le_bytes w32 w) bytes later.bytes)))
word_before number w (Some bad) bytes later all e = rw e refl

line_before : (number : ℕ) (says : Result ℕ LineFault) (first later all : Assembled) → all ≡ followed first.refused first.bytes later
    → before_assembled number says all ≡ followed (before_assembled number says first).refused (before_assembled number says first).bytes later
line_before number (Ok w) first later all e = word_before number w first.refused first.bytes later all e
line_before number (Err fault) first later all e = refl

pub assembled-append : (number : ℕ) (machine : Machine) (lines more : List (List ℕ))
    → assembled_from number machine (lines ++ more) ≡ followed (assembled_from number machine lines).refused (assembled_from number machine lines).bytes (assembled_from (number + length lines) machine more)
assembled-append number machine [] more = rw add-zero refl
assembled-append number machine ([] ∷ lines) more =
    let n : number + 1 + length lines ≡ number + suc (length lines) = omega arith in
    assembled-append (number + 1) machine lines more
    ∙ ap (λ k. followed (assembled_from (number + 1) machine lines).refused (assembled_from (number + 1) machine lines).bytes (assembled_from k machine more)) n
assembled-append number machine ((byte ∷ line) ∷ lines) more =
    let n : number + 1 + length lines ≡ number + suc (length lines) = omega arith in
    line_before number (parsed machine (byte ∷ line)) (assembled_from (number + 1) machine lines) _ _
    (assembled-append (number + 1) machine lines more
    ∙ ap (λ k. followed (assembled_from (number + 1) machine lines).refused (assembled_from (number + 1) machine lines).bytes (assembled_from k machine more)) n)

bytes_of_followed : (bad : Option BadLine) (bytes : List ℕ) (later : Assembled) → (rest : List ℕ) × ((followed bad bytes later).bytes ≡ bytes ++ rest)
bytes_of_followed None bytes later = (later.bytes, refl)
bytes_of_followed (Some bad) bytes later = ([], sym (append-nil bytes))

-- what first lines are assembled to stands at the front
pub bytes-front : (number : ℕ) (machine : Machine) (lines more : List (List ℕ)) → (rest : List ℕ) × ((assembled_from number machine (lines ++ more)).bytes ≡ (assembled_from number machine lines).bytes ++ rest)
bytes-front number machine lines more =
    let h = bytes_of_followed (assembled_from number machine lines).refused (assembled_from number machine lines).bytes (assembled_from (number + length lines) machine more) in
    (h.0, ap (λ a. a.bytes) (assembled-append number machine lines more) ∙ h.1)

-- ---- lines that are refused

-- a line that is too long is refused, whatever follows
pub long_line : (number : ℕ) (machine : Machine) (line : List ℕ) (more : List (List ℕ)) → line_limit < length line
    → assembled_from number machine (line ∷ more) ≡ record { bytes = []; refused = Some (record { number = number; fault = record { at = line_limit; why = Long } }) }
long_line number machine [] more long = absurd (omega arith)
long_line number machine (byte ∷ line) more long =
    let e : nat_lt line_limit (length (byte ∷ line)) ≡ true = grind (arith, nat_tests) in
    let says : parsed machine (byte ∷ line) ≡ refused line_limit Long = rw e refl in
    rw says refl

-- what is too long and left open is too long when more of it comes
pub grown_long : (left more : List ℕ) → line_limit < length left → line_limit < length (left ++ more)
grown_long left more long = omega (arith, length-append left more)

pub judged : (left : List ℕ) → line_limit < length left → judged_open left ≡ left ∷ []
judged left long = let e : nat_lt line_limit (length left) ≡ true = grind (arith, nat_tests) in rw e refl

pub not_judged : (left : List ℕ) → length left ≤ line_limit → judged_open left ≡ []
not_judged left short = let e : nat_lt line_limit (length left) ≡ false = grind (arith, nat_tests) in rw e refl

-- an earlier refusal decides
stays_refused : (number : ℕ) (machine : Machine) (lines more : List (List ℕ)) (bad : BadLine) → (assembled_from number machine lines).refused ≡ Some bad
    → assembled_from number machine (lines ++ more) ≡ assembled_from number machine lines
stays_refused number machine lines more bad is =
    let a : Assembled = assembled_from number machine lines in
    assembled-append number machine lines more ∙ rw is (ap (λ r. record { bytes = a.bytes; refused = r }) (sym is))

-- and so does a line that is too long behind lines without a refusal
pub long_behind : (machine : Machine) (lines more : List (List ℕ)) (line : List ℕ) → (assembled_from 1 machine lines).refused ≡ None → line_limit < length line
    → assembled_from 1 machine (lines ++ (line ∷ more)) ≡ record { bytes = (assembled_from 1 machine lines).bytes; refused = Some (record { number = 1 + length lines; fault = record { at = line_limit; why = Long } }) }
long_behind machine lines more line none long =
    assembled-append 1 machine lines (line ∷ more) ∙ rw (none, long_line (1 + length lines) machine line more long)
    (ap (λ bytes. record { bytes = bytes; refused = Some (record { number = 1 + length lines; fault = record { at = line_limit; why = Long } }) }) (append-nil (assembled_from 1 machine lines).bytes))

-- ---- what first bytes decide

module _ (machine : Machine) (xs : List ℕ) (bad : BadLine) where
  abbrev whole : List (List ℕ)
  whole = (cut xs).whole

  after_long : (lines more : List (List ℕ)) (line : List ℕ) → (assembled_from 1 machine whole).refused ≡ None → line_limit < length (cut xs).left → line_limit < length line → lines ≡ whole ++ (line ∷ more) → assembled_from 1 machine lines ≡ assembled_cut machine (cut xs)
  after_long lines more line none long longer e =
      ap (assembled_from 1 machine) e ∙ long_behind machine whole more line none longer
      ∙ sym (ap (λ last. assembled_from 1 machine (whole ++ last)) (judged (cut xs).left long) ∙ long_behind machine whole [] (cut xs).left none long)

  none_is_open : (assembled_from 1 machine whole).refused ≡ None → length (cut xs).left ≤ line_limit → (assembled_cut machine (cut xs)).refused ≡ Some bad → ⊥
  none_is_open none short is =
      let e : assembled_cut machine (cut xs) ≡ assembled_from 1 machine whole = ap (λ last. assembled_from 1 machine (whole ++ last)) (not_judged (cut xs).left short) ∙ ap (assembled_from 1 machine) (append-nil whole) in
      let same : None ≡ Some bad = sym none ∙ ap (λ a. a.refused) (sym e) ∙ is in absurd cc

  -- the lines of a longer stream begin with those of its first bytes; the open one, if it is too long, goes on
  judged_more : (a : Cut) (lines : List (List ℕ)) (left : List ℕ) → line_limit < length a.left
      → (line : List ℕ) × (more : List (List ℕ)) × (line_limit < length line) × ((with_more a lines left).whole ++ judged_open (with_more a lines left).left ≡ a.whole ++ (line ∷ more))
  judged_more a [] left long = (a.left ++ left, [], grown_long a.left left long, ap (λ last. a.whole ++ last) (judged (a.left ++ left) (grown_long a.left left long)))
  judged_more a (line ∷ lines) left long = (a.left ++ line, lines ++ judged_open left, grown_long a.left line long, append_assoc a.whole _ _)

  listed_open : (left : List ℕ) → line_limit < length left → open_line left ≡ left ∷ []
  listed_open [] long = absurd (omega arith)
  listed_open (byte ∷ left) long = refl

  listed_more : (a : Cut) (lines : List (List ℕ)) (left : List ℕ) → line_limit < length a.left
      → (line : List ℕ) × (more : List (List ℕ)) × (line_limit < length line) × ((with_more a lines left).whole ++ open_line (with_more a lines left).left ≡ a.whole ++ (line ∷ more))
  listed_more a [] left long = (a.left ++ left, [], grown_long a.left left long, ap (λ last. a.whole ++ last) (listed_open (a.left ++ left) (grown_long a.left left long)))
  listed_more a (line ∷ lines) left long = (a.left ++ line, lines ++ open_line left, grown_long a.left line long, append_assoc a.whole _ _)

  -- where first bytes hold a line that is refused, more bytes change nothing, read on or cut
  module _ (is : (assembled_cut machine (cut xs)).refused ≡ Some bad) (ys : List ℕ) where
    abbrev Same : Assembled → Type 0
    Same a = a ≡ assembled_cut machine (cut xs)

    pub cut_stays : Same (assembled_cut machine (cut (xs ++ ys)))
    cut_stays = go (assembled_from 1 machine whole).refused refl
      where
        lines : List (List ℕ)
        lines = (cut (xs ++ ys)).whole ++ judged_open (cut (xs ++ ys)).left

        here : lines ≡ (with_more (cut xs) (cut ys).whole (cut ys).left).whole ++ judged_open (with_more (cut xs) (cut ys).whole (cut ys).left).left
        here = ap (λ c. c.whole ++ judged_open c.left) (cut-append xs ys)

        by_length : (assembled_from 1 machine whole).refused ≡ None → Same (assembled_from 1 machine lines)
        by_length none = elim (cases_lt line_limit (length (cut xs).left)) [
          | inl long ↦ (let m = judged_more (cut xs) (cut ys).whole (cut ys).left long in after_long lines m.1 m.0 none long m.2 (here ∙ m.3))
          | inr short ↦ absurd (none_is_open none short is)
        ]

        go : (r : Option BadLine) → (assembled_from 1 machine whole).refused ≡ r → Same (assembled_from 1 machine lines)
        go None none = by_length none
        go (Some other) some =
            let front = whole-front xs ys in
            let e : lines ≡ whole ++ (front.0 ++ judged_open (cut (xs ++ ys)).left) = ap (λ w. w ++ judged_open (cut (xs ++ ys)).left) front.1 ∙ append_assoc whole _ _ in
            ap (assembled_from 1 machine) e ∙ stays_refused 1 machine whole _ other some ∙ sym (stays_refused 1 machine whole (judged_open (cut xs).left) other some)

    pub read_stays : Same (assembled machine (xs ++ ys))
    read_stays = go (assembled_from 1 machine whole).refused refl
      where
        here : lines_in (xs ++ ys) ≡ (with_more (cut xs) (cut ys).whole (cut ys).left).whole ++ open_line (with_more (cut xs) (cut ys).whole (cut ys).left).left
        here = lines-cut (xs ++ ys) ∙ ap (λ c. c.whole ++ open_line c.left) (cut-append xs ys)

        by_length : (assembled_from 1 machine whole).refused ≡ None → Same (assembled machine (xs ++ ys))
        by_length none = elim (cases_lt line_limit (length (cut xs).left)) [
          | inl long ↦ (let m = listed_more (cut xs) (cut ys).whole (cut ys).left long in after_long (lines_in (xs ++ ys)) m.1 m.0 none long m.2 (here ∙ m.3))
          | inr short ↦ absurd (none_is_open none short is)
        ]

        go : (r : Option BadLine) → (assembled_from 1 machine whole).refused ≡ r → Same (assembled machine (xs ++ ys))
        go None none = by_length none
        go (Some other) some =
            let front = lines-front xs ys in
            ap (assembled_from 1 machine) front.1 ∙ stays_refused 1 machine whole _ other some ∙ sym (stays_refused 1 machine whole (judged_open (cut xs).left) other some)
