-- What a text is read as: the log whose text it is, or the place of its first line that is not as demanded.
-- Laws say that this is what `Reading` demands (`each_text_is_read`).
use Rattle.std.specs.Prelude.{ℕ, zero, suc, ◌+◌, ◌-◌, ℤ, pos, neg_ℤ, Bool, true, false, ◌&&◌, nat_le, ◌==◌, bytes_eq, List, [], ◌∷◌, length, codes, decimal, Option, Some, None, option_map, option_and_then, Result, Ok, Err, if◌then◌else◌}
use Rattle.std.specs.Str.Parse.{digits_value}
use Rattle.std.specs.Result.{result_map_both}
use Rattle.spec_refutation.specs.Derivation.{Step}

-- A log: its number of variables, its clauses and its steps.
pub record Log : Type 0 where
  pub vars : ℕ
  pub clauses : List (List ℤ)
  pub steps : List Step

-- ---- words

-- a value, where the test is passed
abbrev pub where_true : {A : Type 0} → Bool → A → Option A
where_true true a = Some a
where_true false a = None

-- two values made one, where there are both
abbrev pub both : {A B C : Type 0} → (A → B → C) → Option A → Option B → Option C
both f None b = None
both f (Some x) None = None
both f (Some x) (Some y) = Some (f x y)

-- What is read from each word, where it is from all.
abbrev pub from_all : {A : Type 0} → (List ℕ → Option A) → List (List ℕ) → Option (List A)
from_all read [] = Some []
from_all read (word ∷ words) = both (λ x xs. x ∷ xs) (read word) (from_all read words)

-- The number from the least to the most that a word is in decimal, without leading zeros: the word is what
-- the number made of its digits is written as.
abbrev pub number : ℕ → ℕ → List ℕ → Option ℕ
number least most word =
    let n = digits_value 10 word in where_true (nat_le least n && nat_le n most && bytes_eq (decimal n) word) n

-- A literal is a number from 1 to that of the variables, or its negative behind `-`.
abbrev pub literal : ℕ → List ℕ → Option ℤ
literal vars [] = None
literal vars (b ∷ bs) = if b == 45 then option_map (λ n. neg_ℤ (pos n)) (number 1 vars bs) else option_map pos (number 1 vars (b ∷ bs))

-- ---- lines

-- what the words behind this first one are read as
abbrev pub behind : {A : Type 0} → List ℕ → (List (List ℕ) → Option A) → List (List ℕ) → Option A
behind first read [] = None
behind first read (word ∷ words) = if bytes_eq word first then read words else None

-- How many variables, clauses and steps a log has.
pub record Counts : Type 0 where
  pub vars : ℕ
  pub clauses : ℕ
  pub steps : ℕ

-- three numbers within the bounds of the format
abbrev pub counts_of : List ℕ → Option Counts
counts_of (v ∷ c ∷ s ∷ []) = where_true (nat_le v 2147483647 && nat_le (c + s) 18446744073709551615) (record { vars = v; clauses = c; steps = s })
counts_of numbers = None

-- the first line: `p` and the counts
abbrev pub counts : List (List ℕ) → Option Counts
counts = behind (codes "p") (λ words. option_and_then counts_of (from_all (number 0 18446744073709551615) words))

-- a clause's line: `c` and literals
abbrev pub clause : ℕ → List (List ℕ) → Option (List ℤ)
clause vars = behind (codes "c") (from_all (literal vars))

-- literals, `:` and hints, which are from 1 to the number of clauses and steps
abbrev pub derivation : ℕ → ℕ → List (List ℕ) → Option Step
derivation vars lines [] = None
derivation vars lines (word ∷ words) =
    if bytes_eq word (codes ":") then option_map (λ hints. ([], hints)) (from_all (number 1 lines) words)
    else both (λ (l : ℤ) (step : Step). (l ∷ step.0, step.1)) (literal vars word) (derivation vars lines words)

-- a step's line: `s` and these
abbrev pub step : ℕ → ℕ → List (List ℕ) → Option Step
step vars lines = behind (codes "s") (derivation vars lines)

-- ---- the text

-- a byte in front of the first word
abbrev pub onto : ℕ → List (List ℕ) → List (List ℕ)
onto b [] = []
onto b (word ∷ words) = (b ∷ word) ∷ words

-- a space ends the first word, and any other byte joins it
abbrev pub apart : Bool → ℕ → List (List ℕ) → List (List ℕ)
apart true b words = [] ∷ words
apart false b words = onto b words

-- The words of a line: what stands before, between and behind its spaces.
abbrev pub words_of : List ℕ → List (List ℕ)
words_of [] = [] ∷ []
words_of (b ∷ bs) = apart (b == 32) b (words_of bs)

-- a line feed ends the line, and any other byte joins it
abbrev pub line_with : Bool → ℕ → List ℕ → Option (List ℕ × List ℕ) → Option (List ℕ × List ℕ)
line_with true b bs line = Some ([], bs)
line_with false b bs line = option_map (λ p. (b ∷ p.0, p.1)) line

-- The bytes before the first line feed of a text, and those behind it.
abbrev pub line_of : List ℕ → Option (List ℕ × List ℕ)
line_of [] = None
line_of (b ∷ bs) = line_with (b == 10) b bs (line_of bs)

-- What the first line is read as, and the bytes behind it.
abbrev pub from_line : {A : Type 0} → (List (List ℕ) → Option A) → List ℕ → Option (A × List ℕ)
from_line read text = option_and_then (λ line. option_map (λ a. (a, line.1)) (read (words_of line.0))) (line_of text)

abbrev pub first_and : {A : Type 0} → List ℕ → Option (A × List ℕ) → (List ℕ → Result (List A × List ℕ) (List ℕ)) → Result (List A × List ℕ) (List ℕ)
first_and text None more = Err text
first_and text (Some first) more = result_map_both (λ q. (first.0 ∷ q.0, q.1)) (λ left. left) (more first.1)

-- What so many lines are read as, and the bytes behind them; or the bytes from the first line on that is
-- not as demanded.
abbrev pub from_lines : {A : Type 0} → (List (List ℕ) → Option A) → ℕ → List ℕ → Result (List A × List ℕ) (List ℕ)
from_lines read zero text = Ok ([], text)
from_lines read (suc n) text = first_and text (from_line read text) (from_lines read n)

-- nothing stands behind the last line
abbrev pub ended : Log → List ℕ → Result Log (List ℕ)
ended log [] = Ok log
ended log (b ∷ bs) = Err (b ∷ bs)

abbrev pub with_steps : ℕ → List (List ℤ) → Result (List Step × List ℕ) (List ℕ) → Result Log (List ℕ)
with_steps vars clauses (Err left) = Err left
with_steps vars clauses (Ok steps) = ended (record { vars = vars; clauses = clauses; steps = steps.0 }) steps.1

abbrev pub with_clauses : Counts → Result (List (List ℤ) × List ℕ) (List ℕ) → Result Log (List ℕ)
with_clauses n (Err left) = Err left
with_clauses n (Ok clauses) = with_steps n.vars clauses.0 (from_lines (step n.vars (n.clauses + n.steps)) n.steps clauses.1)

abbrev pub with_counts : List ℕ → Option (Counts × List ℕ) → Result Log (List ℕ)
with_counts text None = Err text
with_counts text (Some first) = with_clauses first.0 (from_lines (clause first.0.vars) first.0.clauses first.1)

-- The first line, then a line for each clause, then a line for each step, and nothing more; or the bytes
-- from the first line on that is not as demanded.
abbrev pub log_or_rest : List ℕ → Result Log (List ℕ)
log_or_rest text = with_counts text (from_line counts text)

-- The log whose text this is, or the place of its first line that is not as demanded.
abbrev pub log_in : List ℕ → Result Log ℕ
log_in text = result_map_both (λ log. log) (λ left. length text - length left) (log_or_rest text)
