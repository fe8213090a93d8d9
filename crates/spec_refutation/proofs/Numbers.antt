-- A number in decimal is told by its text where no digit follows.
use Rattle.std.proofs.Common.{◌≡◌, ◌≢◌, ◌⊎◌, inl, inr, ℕ, ◌+◌, ◌*◌, ◌/◌, ◌%◌, ◌^◌, ◌<◌, ◌≤◌, Bool, true, false, cond, List, [], ◌∷◌, ◌++◌, length, get_or, refl, sym, ap, ◌∙◌, ⊎_elim, arith}
use Rattle.std.specs.Prelude.{decimal, bytes_eq}
use Rattle.std.specs.Char.{digit_value, is_ascii_digit}
use Rattle.std.specs.Str.Parse.{AllDigits, digits_value_after}
use Rattle.std.proofs.lemmas.Bool.{both_ways, and_from, le-leb, cases_eq, cases_lt, cases_Bool, cond-true, cond-false}
use Rattle.std.proofs.lemmas.Bool.Decides.{nat_tests}
use Rattle.std.proofs.lemmas.Str.Parse.{digit_from_value}
use Rattle.std.proofs.lemmas.Slice.Eq.{bytes_eq-Decides}
use Rattle.std.proofs.lemmas.Fmt.{decimal_is_IsNumeral, decimal_digit, decimal_step, decimal_nonempty, first_decimal}
use Rattle.std.proofs.lemmas.List.{get_or_append_left}
use Rattle.spec_refutation.specs.Text.{begins_with_digit}

-- the number that the digits at the front write after those of n, and the bytes after them
abbrev number_from : ℕ → List ℕ → ℕ × List ℕ
number_from n [] = (n, [])
number_from n (b ∷ bs) = cond (is_ascii_digit b) (number_from (n * 10 + digit_value b) bs) (n, b ∷ bs)

digit_is : (c : ℕ) → digit_value c < 10 → is_ascii_digit c ≡ true
digit_is c h = let r = digit_from_value c h in and_from _ _ (le-leb 48 c r.0) (le-leb c 57 r.1)

number_from-stop : (n : ℕ) (rest : List ℕ) → begins_with_digit rest ≡ false → number_from n rest ≡ (n, rest)
number_from-stop n [] h = refl
number_from-stop n (b ∷ bs) h = cond-false (is_ascii_digit b) (number_from (n * 10 + digit_value b) bs) (n, b ∷ bs) h

number_from-append : (n : ℕ) (ds rest : List ℕ) → AllDigits 10 ds
    → number_from n (ds ++ rest) ≡ number_from (digits_value_after 10 n ds) rest
number_from-append n [] rest h = refl
number_from-append n (c ∷ cs) rest h =
    cond-true (is_ascii_digit c) (number_from (n * 10 + digit_value c) (cs ++ rest)) (n, c ∷ (cs ++ rest)) (digit_is c h.0)
    ∙ number_from-append (n * 10 + digit_value c) cs rest h.1

number_from-decimal : (n : ℕ) (rest : List ℕ) → n < 2 ^ 64
    → number_from 0 (decimal n ++ rest) ≡ number_from n rest
number_from-decimal n rest h = let d = decimal_is_IsNumeral n h in number_from-append 0 (decimal n) rest d.0.1 ∙ ap (λ m. number_from m rest) d.1

number_from-ge : (n : ℕ) (bs : List ℕ) → n ≤ (number_from n bs).0
number_from-ge n [] = omega arith
number_from-ge n (b ∷ bs) = go (is_ascii_digit b) (number_from-ge (n * 10 + digit_value b) bs)
  where
    go : (t : Bool) → n * 10 + digit_value b ≤ (number_from (n * 10 + digit_value b) bs).0
        → n ≤ (cond t (number_from (n * 10 + digit_value b) bs) (n, b ∷ bs)).0
    go true ih = omega (arith, ih)
    go false ih = omega arith

-- two numbers with one text, where no digit follows either
pub same_number : (m n : ℕ) (x y : List ℕ) → m < 2 ^ 64 → n < 2 ^ 64 → begins_with_digit x ≡ false
    → begins_with_digit y ≡ false → decimal m ++ x ≡ decimal n ++ y → (m ≡ n) × (x ≡ y)
same_number m n x y hm hn hx hy e =
    let p : ◌≡◌ {A = ℕ × List ℕ} (m, x) (n, y) = sym (number_from-decimal m x hm ∙ number_from-stop m x hx) ∙ ap (number_from 0) e ∙ number_from-decimal n y hn ∙ number_from-stop n y hy in
    (ap (λ q. q.0) p, ap (λ q. q.1) p)

-- a digit more
pub decimal_more : (v d : ℕ) → 0 < v → d ≤ 9 → v * 10 + d < 2 ^ 64
    → decimal (v * 10 + d) ≡ decimal v ++ (48 + d) ∷ []
decimal_more v d hv hd fits =
    let q : (v * 10 + d) / 10 ≡ v = omega arith in
    let r : (v * 10 + d) % 10 ≡ d = omega arith in
    decimal_step (v * 10 + d) (omega arith) fits ∙ ap (λ a. decimal a ++ (48 + (v * 10 + d) % 10) ∷ []) q ∙ ap (λ b. decimal v ++ (48 + b) ∷ []) r

digit_value-at : (d : ℕ) → d ≤ 9 → digit_value (48 + d) ≡ d
digit_value-at d h = grind (arith, nat_tests)

-- a text of more digits than 64 bits have room for begins with no number
pub too_large : (v d n : ℕ) (t rest : List ℕ) → v < 2 ^ 64 → d ≤ 9 → 2 ^ 64 ≤ v * 10 + d → n < 2 ^ 64
    → begins_with_digit rest ≡ false → decimal v ++ ((48 + d) ∷ t) ≡ decimal n ++ rest → ⊥
too_large v d n t rest hv hd over hn hr e =
    let value : digit_value (48 + d) ≡ d = digit_value-at d hd in
    let digit : is_ascii_digit (48 + d) ≡ true = digit_is (48 + d) (omega (arith, value)) in
    let one : number_from v ((48 + d) ∷ t) ≡ number_from (v * 10 + d) t =
    cond-true (is_ascii_digit (48 + d)) (number_from (v * 10 + digit_value (48 + d)) t) (v, (48 + d) ∷ t) digit ∙ ap (λ k. number_from (v * 10 + k) t) value in
    let whole : number_from (v * 10 + d) t ≡ (n, rest) =
    sym (number_from-decimal v ((48 + d) ∷ t) hv ∙ one) ∙ ap (number_from 0) e ∙ number_from-decimal n rest hn ∙ number_from-stop n rest hr in
    let same : (number_from (v * 10 + d) t).0 ≡ n = ap (λ q. q.0) whole in
    omega (arith, number_from-ge (v * 10 + d) t, same)

pub begins-decimal : (n : ℕ) (rest : List ℕ) → n < 2 ^ 64 → begins_with_digit (decimal n ++ rest) ≡ true
begins-decimal n rest h = go (decimal n) (decimal_is_IsNumeral n h).0.0 (decimal_is_IsNumeral n h).0.1
  where
    go : (ds : List ℕ) → 0 < length ds → AllDigits 10 ds → begins_with_digit (ds ++ rest) ≡ true
    go [] h a = absurd (omega arith)
    go (c ∷ cs) h a = digit_is c a.0

-- where no digit stands there is no number
pub no_number : (n : ℕ) (text rest : List ℕ) → n < 2 ^ 64 → begins_with_digit text ≡ false
    → text ≢ decimal n ++ rest
no_number n text rest h none e = both_ways (begins_with_digit text) none (ap begins_with_digit e ∙ begins-decimal n rest h)

-- no number begins with 0 and goes on
pub no_leading_zero : (n : ℕ) (t rest : List ℕ) → n < 2 ^ 64 → begins_with_digit t ≡ true
    → begins_with_digit rest ≡ false → 48 ∷ t ≢ decimal n ++ rest
no_leading_zero n t rest h more stop e = ⊎_elim zero_case other_case (cases_eq n 0)
  where
    zero_case : n ≡ 0 → ⊥
    zero_case z =
        let p : 48 ∷ t ≡ 48 ∷ rest = e ∙ ap (λ k. decimal k ++ rest) z ∙ ap (λ ds. ds ++ rest) (decimal_digit 0 (omega arith)) in
        let q : t ≡ rest = cc in
        both_ways (begins_with_digit t) (ap begins_with_digit q ∙ stop) more

    other_case : (n ≡ 0 → ⊥) → ⊥
    other_case ne =
        let first : get_or (decimal n ++ rest) 0 0 ≡ get_or (decimal n) 0 0 = get_or_append_left (decimal n) rest 0 0 (decimal_nonempty n h) in
        let p : 48 ≡ get_or (decimal n) 0 0 = ap (λ bs. get_or bs 0 0) e ∙ first in
        omega (arith, p, first_decimal n (omega arith) h)

-- the number at the front of a text
pub record NumberAt (text : List ℕ) : Type 0 where
  pub number : ℕ
  pub rest : List ℕ
  pub fits : number < 2 ^ 64
  pub read : text ≡ decimal number ++ rest
  pub stop : begins_with_digit rest ≡ false

-- there is one, or none
pub number_or_none : (text : List ℕ)
    → NumberAt text ⊎ ((n : ℕ) (rest : List ℕ) → n < 2 ^ 64 → begins_with_digit rest ≡ false → text ≢ decimal n ++ rest)
number_or_none text = judge (number_from 0 text).0 (number_from 0 text).1
    (λ m rest fits stop e. ap (λ p. p.0) (whole m rest fits stop e)) (λ m rest fits stop e. ap (λ p. p.1) (whole m rest fits stop e))
  where
    whole : (m : ℕ) (rest : List ℕ) → m < 2 ^ 64 → begins_with_digit rest ≡ false → text ≡ decimal m ++ rest
        → number_from 0 text ≡ (m, rest)
    whole m rest fits stop e = ap (number_from 0) e ∙ number_from-decimal m rest fits ∙ number_from-stop m rest stop

    judge : (n : ℕ) (left : List ℕ)
        → ((m : ℕ) (rest : List ℕ) → m < 2 ^ 64 → begins_with_digit rest ≡ false → text ≡ decimal m ++ rest → n ≡ m)
        → ((m : ℕ) (rest : List ℕ) → m < 2 ^ 64 → begins_with_digit rest ≡ false → text ≡ decimal m ++ rest → left ≡ rest)
        → NumberAt text ⊎ ((m : ℕ) (rest : List ℕ) → m < 2 ^ 64 → begins_with_digit rest ≡ false → text ≢ decimal m ++ rest)
    judge n left same_n same_left = ⊎_elim (λ fits. ⊎_elim
        (λ goes. inr (λ m rest small stop e. both_ways (begins_with_digit rest) stop (sym (ap begins_with_digit (same_left m rest small stop e)) ∙ goes)))
        (λ ends. ⊎_elim
        (λ same. inl (record { number = n; rest = left; fits = fits; read = (bytes_eq-Decides text (decimal n ++ left)).0 same; stop = ends }))
        (λ other. inr (λ m rest small stop e. both_ways (bytes_eq text (decimal n ++ left)) other
        ((bytes_eq-Decides text (decimal n ++ left)).1 (e ∙ ap (λ k. decimal k ++ rest) (sym (same_n m rest small stop e)) ∙ ap (λ t. decimal n ++ t) (sym (same_left m rest small stop e))))))
        (cases_Bool (bytes_eq text (decimal n ++ left))))
        (cases_Bool (begins_with_digit left)))
        (λ large. inr (λ m rest small stop e. let q : n ≡ m = same_n m rest small stop e in omega arith))
        (cases_lt n (2 ^ 64))
