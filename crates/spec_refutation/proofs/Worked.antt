-- The definitions at worked logs, by computing.
use Rattle.std.proofs.Common.{◌≡◌, ℤ, pos, negsuc, true, false, List, [], ◌∷◌, refl}
use Rattle.std.specs.Prelude.{codes}
use Rattle.std.specs.Fmt.{digits}
use Rattle.spec_refutation.specs.Derivation.{derives}
use Rattle.spec_refutation.specs.Refutation.{follows}
use Rattle.spec_refutation.specs.Text.{log_text}

-- six clauses on three variables: 3 1; 3 -2; -3 -1 2; 3; 1; -2
abbrev six : List (List ℤ)
six = (pos 3 ∷ pos 1 ∷ []) ∷ (pos 3 ∷ negsuc 1 ∷ []) ∷ (negsuc 2 ∷ negsuc 0 ∷ pos 2 ∷ []) ∷ (pos 3 ∷ []) ∷ (pos 1 ∷ []) ∷ (negsuc 1 ∷ []) ∷ []

-- the empty clause follows by the hints 4 5 3 6
six_refuted : derives six ([], 4 ∷ 5 ∷ 3 ∷ 6 ∷ []) ≡ true
six_refuted = refl

-- by 4 3 6 it does not, since clause 3 has two literals left open
two_left_open : derives six ([], 4 ∷ 3 ∷ 6 ∷ []) ≡ false
two_left_open = refl

-- by 4 5 it does not, since clause 5 is not falsified
never_falsified : derives six ([], 4 ∷ 5 ∷ []) ≡ false
never_falsified = refl

-- a step may not hint at itself, at a later number, or at 0
own_number : derives six ([], 7 ∷ []) ≡ false
own_number = refl

zero_hint : derives six ([], 0 ∷ []) ≡ false
zero_hint = refl

-- a clause that is falsified already may not be hinted at before the last hint
falsified_before_last : derives ((pos 1 ∷ []) ∷ (negsuc 0 ∷ []) ∷ []) ([], 1 ∷ 2 ∷ 1 ∷ []) ≡ false
falsified_before_last = refl

-- equal literals of a clause count once
equal_once : derives ((pos 1 ∷ pos 1 ∷ []) ∷ (negsuc 0 ∷ negsuc 0 ∷ []) ∷ []) ([], 1 ∷ 2 ∷ []) ≡ true
equal_once = refl

-- a later step may hint at an earlier one
earlier_step : follows ((pos 1 ∷ []) ∷ (negsuc 0 ∷ pos 2 ∷ []) ∷ (negsuc 1 ∷ []) ∷ []) ((pos 2 ∷ [], 1 ∷ 2 ∷ []) ∷ ([], 4 ∷ 3 ∷ []) ∷ []) 1 ≡ true
earlier_step = refl

-- the text of the six clauses and the step
six_text : log_text 3 six (([], 4 ∷ 5 ∷ 3 ∷ 6 ∷ []) ∷ []) ≡ codes "p 3 6 1\nc 3 1\nc 3 -2\nc -3 -1 2\nc 3\nc 1\nc -2\ns : 4 5 3 6\n"
unfolding digits
six_text = refl
