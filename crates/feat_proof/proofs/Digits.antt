-- A number's text, a digit at a time.
use Rattle.std.proofs.Common.{◌≡◌, ◌≢◌, ℕ, ◌+◌, ◌*◌, ◌^◌, ◌<◌, ◌≤◌, true, false, List, [], ◌∷◌, ◌++◌, sym, ap, ◌∙◌, arith}
use Rattle.std.specs.Prelude.{decimal}
use Rattle.std.proofs.lemmas.Bool.{and_from, le-leb}
use Rattle.std.proofs.lemmas.Fmt.{decimal_digit}
use Rattle.std.proofs.lemmas.List.{append_assoc}
use Rattle.spec_refutation.specs.Text.{begins_with_digit}
use Rattle.spec_refutation.proofs.Numbers.{decimal_more, no_leading_zero, too_large}

digit_begins : (d : ℕ) (rest : List ℕ) → d ≤ 9 → begins_with_digit ((48 + d) ∷ rest) ≡ true
digit_begins d rest h = and_from _ _ (le-leb 48 (48 + d) (omega arith)) (le-leb (48 + d) 57 (omega arith))

-- a digit is the text of its value
pub first_digit : (d : ℕ) (text rest : List ℕ) → d ≤ 9 → text ≡ (48 + d) ∷ rest → text ≡ decimal d ++ rest
first_digit d text rest h e = e ∙ ap (λ ds. ds ++ rest) (sym (decimal_digit d (omega arith)))

pub zero_ends : (d : ℕ) (text rest : List ℕ) → d ≡ 0 → d ≤ 9 → text ≡ (48 + d) ∷ rest → text ≡ decimal 0 ++ rest
zero_ends d text rest z h e = first_digit d text rest h e ∙ ap (λ k. decimal k ++ rest) z

-- no number is 0 and then a digit
pub zero_goes_on : (d n k : ℕ) (text rest more t : List ℕ) → d ≡ 0 → text ≡ (48 + d) ∷ t → k ≤ 9
    → t ≡ (48 + k) ∷ more → n < 2 ^ 64 → begins_with_digit rest ≡ false → text ≢ decimal n ++ rest
zero_goes_on d n k text rest more t z e h f small stop g =
    no_leading_zero n t rest small (ap begins_with_digit f ∙ digit_begins k more h) stop (sym (e ∙ ap (λ j. (48 + j) ∷ t) z) ∙ g)

-- one digit more
pub next_digit : (v d w : ℕ) (text t rest : List ℕ) → 0 < v → d ≤ 9 → w < 2 ^ 64 → w ≡ v * 10 + d
    → text ≡ decimal v ++ t → t ≡ (48 + d) ∷ rest → (0 < w) × (text ≡ decimal w ++ rest)
next_digit v d w text t rest some h fits w_is e f = (
  omega arith,
  e ∙ ap (λ x. decimal v ++ x) f ∙ sym (append_assoc (decimal v) ((48 + d) ∷ []) rest) ∙ ap (λ x. x ++ rest) (sym (decimal_more v d some h (omega arith))) ∙ ap (λ x. decimal x ++ rest) (sym w_is),
)

-- a digit too many
pub no_room : (v d n : ℕ) (text t more rest : List ℕ) → v < 2 ^ 64 → d ≤ 9 → (v * 10 + d < 2 ^ 64 → ⊥)
    → text ≡ decimal v ++ t → t ≡ (48 + d) ∷ more → n < 2 ^ 64 → begins_with_digit rest ≡ false
    → text ≢ decimal n ++ rest
no_room v d n text t more rest hv h over e f small stop g =
    too_large v d n more rest hv h (omega arith) small stop (sym (e ∙ ap (λ x. decimal v ++ x) f) ∙ g)
