-- What texts are read as, at worked texts, by computing.
use Rattle.std.proofs.Common.{◌≡◌, ℕ, ℤ, pos, negsuc, List, [], ◌∷◌, ◌++◌, Some, None, Ok, Err, refl}
use Rattle.std.specs.Prelude.{codes}
use Rattle.std.specs.Fmt.{digits}
use Rattle.spec_refutation.specs.Refutation.{failure}
use Rattle.spec_refutation.specs.LogReading.{log_in}

-- six clauses on three variables: 3 1; 3 -2; -3 -1 2; 3; 1; -2
abbrev six : List (List ℤ)
six = (pos 3 ∷ pos 1 ∷ []) ∷ (pos 3 ∷ negsuc 1 ∷ []) ∷ (negsuc 2 ∷ negsuc 0 ∷ pos 2 ∷ []) ∷ (pos 3 ∷ []) ∷ (pos 1 ∷ []) ∷ (negsuc 1 ∷ []) ∷ []

-- their lines, without the first line of the log
abbrev lines : List ℕ
lines = codes "c 3 1\nc 3 -2\nc -3 -1 2\nc 3\nc 1\nc -2\n"

eight_lines : log_in (codes "p 3 6 1\n" ++ (lines ++ codes "s : 4 5 3 6\n")) ≡ Ok (record { vars = 3; clauses = six; steps = ([], 4 ∷ 5 ∷ 3 ∷ 6 ∷ []) ∷ [] })
unfolding digits
eight_lines = refl

-- the same lines and another last one
abbrev with_last : List ℕ → List ℕ
with_last last = codes "p 3 6 1\n" ++ (lines ++ last)

step_by_two : log_in (with_last (codes "s : 4 5\n")) ≡ Ok (record { vars = 3; clauses = six; steps = ([], 4 ∷ 5 ∷ []) ∷ [] })
unfolding digits
step_by_two = refl

step_with_literals : log_in (with_last (codes "s 1 -2 : 7\n")) ≡ Ok (record { vars = 3; clauses = six; steps = (pos 1 ∷ negsuc 1 ∷ [], 7 ∷ []) ∷ [] })
unfolding digits
step_with_literals = refl

-- the place of a line is that of its first byte: a literal past the variables, a hint past the lines, no colon, two spaces, a
-- leading zero, 0, no line feed
past_variables : log_in (with_last (codes "s 4 :\n")) ≡ Err 44
unfolding digits
past_variables = refl

past_lines : log_in (with_last (codes "s : 8\n")) ≡ Err 44
unfolding digits
past_lines = refl

no_colon : log_in (with_last (codes "s 1 2\n")) ≡ Err 44
unfolding digits
no_colon = refl

two_spaces : log_in (with_last (codes "s :  4\n")) ≡ Err 44
unfolding digits
two_spaces = refl

leading_zero : log_in (with_last (codes "s : 04\n")) ≡ Err 44
unfolding digits
leading_zero = refl

zero_literal : log_in (with_last (codes "s 0 :\n")) ≡ Err 44
unfolding digits
zero_literal = refl

no_line_feed : log_in (with_last (codes "s : 4 5 3 6")) ≡ Err 44
unfolding digits
no_line_feed = refl

-- a clause's line in place of the step's, a missing line, one too many
clause_for_step : log_in (with_last (codes "c 1\n")) ≡ Err 44
unfolding digits
clause_for_step = refl

line_missing : log_in (with_last []) ≡ Err 44
unfolding digits
line_missing = refl

line_too_many : log_in (with_last (codes "s : 4 5 3 6\ns :\n")) ≡ Err 56
unfolding digits
line_too_many = refl

-- no text; a first line with too many variables, with a sign, with two counts, with more lines than 64 bits count
no_text : log_in [] ≡ Err 0
no_text = refl

too_many_variables : log_in (codes "p 2147483648 0 0\n") ≡ Err 0
unfolding digits
too_many_variables = refl

signed_count : log_in (codes "p 3 +1 0\nc\n") ≡ Err 0
unfolding digits
signed_count = refl

two_counts : log_in (codes "p 3 1\nc\n") ≡ Err 0
unfolding digits
two_counts = refl

too_many_lines : log_in (codes "p 0 18446744073709551615 1\n") ≡ Err 0
unfolding digits
too_many_lines = refl

-- the most lines are promised, and there are none
most_promised : log_in (codes "p 2147483647 18446744073709551615 0\n") ≡ Err 36
unfolding digits
most_promised = refl

-- nothing is no fault where nothing is promised
nothing : log_in (codes "p 0 0 0\n") ≡ Ok (record { vars = 0; clauses = []; steps = [] })
unfolding digits
nothing = refl

-- ---- the number at which a log fails

eight_lines_refute : failure six (([], 4 ∷ 5 ∷ 3 ∷ 6 ∷ []) ∷ []) ≡ None
eight_lines_refute = refl

two_left_open : failure six (([], 4 ∷ 3 ∷ 6 ∷ []) ∷ []) ≡ Some 0
two_left_open = refl

never_falsified : failure six (([], 4 ∷ 5 ∷ []) ∷ []) ≡ Some 0
never_falsified = refl

-- the second step is the first that does not follow, though an earlier one is empty
second_lapses : failure six (([], 4 ∷ 5 ∷ 3 ∷ 6 ∷ []) ∷ ([], 1 ∷ []) ∷ []) ≡ Some 1
second_lapses = refl

-- every step follows and none is empty
none_is_empty : failure six ((pos 2 ∷ [], 4 ∷ 5 ∷ 3 ∷ []) ∷ []) ≡ Some 1
none_is_empty = refl

no_steps : failure [] [] ≡ Some 0
no_steps = refl
