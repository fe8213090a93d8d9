-- A literal's text: its number, after `-` where it is negative.
use Rattle.std.proofs.Common.{◌≡◌, ℕ, suc, ◌^◌, ◌<◌, ◌≤◌, pos, negsuc, false, List, ◌∷◌, ◌++◌, sym, ap, ◌∙◌, arith}
use Rattle.std.specs.Prelude.{decimal}
use Rattle.std.proofs.lemmas.Bool.{both_ways}
use Rattle.spec_refutation.specs.Text.{begins_with_digit}
use Rattle.spec_refutation.proofs.Numbers.{begins-decimal, same_number}
use Rattle.spec_refutation.proofs.Lines.{tails}
use Rattle.spec_refutation.specs.Scans.{NoNumber, NoLiteral}

-- a number outside the bounds is no other number within
pub outside : (least most m : ℕ) (text t : List ℕ) → m < 2 ^ 64 → most < 2 ^ 64 → begins_with_digit t ≡ false
    → text ≡ decimal m ++ t → (least ≤ m → m ≤ most → ⊥) → NoNumber least most text
outside least most m text t hm fits stop e out n rest low high s f =
    let q : m ≡ n = (same_number m n t rest hm (omega arith) stop s (sym e ∙ f)).0 in
    out (omega arith) (omega arith)

-- behind `-` stands no positive number, and no literal where no number does
pub no_minus_literal : (vars : ℕ) → vars ≤ 2147483647 → (text size : List ℕ) → text ≡ 45 ∷ size
    → NoNumber 1 vars size → NoLiteral vars text
no_minus_literal vars few text size e none (pos n) rest good stop f =
    both_ways (begins_with_digit text) (ap begins_with_digit e) (ap begins_with_digit f ∙ begins-decimal n rest (omega (arith, good.within)))
no_minus_literal vars few text size e none (negsuc n) rest good stop f = none (suc n) rest (omega arith) good.within stop (tails (sym e ∙ f))
