-- When a log refutes clauses, and where one fails that does not.
use Rattle.std.specs.Prelude.{◌≡◌, ◌≢◌, ℕ, suc, ◌<◌, ℤ, Bool, true, false, List, [], ◌∷◌, ◌++◌, map, take, length, slice_index_or, ◌⊎◌, Option, Some, None, option_map, if◌then◌else◌}
use Rattle.std.specs.List.{list_any}
use Rattle.spec_refutation.specs.Derivation.{Step, derives}

-- Clauses are numbered from 1, and the steps of a log go on from there: before step i, counted from 0,
-- stand the clauses and those of the earlier steps.
abbrev pub clauses_before : List (List ℤ) → List Step → ℕ → List (List ℤ)
clauses_before clauses steps i = clauses ++ map (λ s. s.0) (take i steps)

-- step i, counted from 0; past the end a step without hints, which never follows
abbrev pub step_at : List Step → ℕ → Step
step_at steps i = slice_index_or steps i ([], [])

-- whether step i follows from what stands before it
abbrev pub follows : List (List ℤ) → List Step → ℕ → Bool
follows clauses steps i = derives (clauses_before clauses steps i) (step_at steps i)

-- each step below this number follows
abbrev pub EachFollows : List (List ℤ) → List Step → ℕ → Type 0
EachFollows clauses steps n = (i : ℕ) → i < n → follows clauses steps i ≡ true

-- A log refutes clauses where every step follows and some step's clause is empty.
pub record Refutes (clauses : List (List ℤ)) (steps : List Step) : Type 0 where
  pub each : EachFollows clauses steps (length steps)
  pub empty : (i : ℕ) × (i < length steps) × ((step_at steps i).0 ≡ [])

-- A log fails at the first step that does not follow.
pub record FailsAtStep (clauses : List (List ℤ)) (steps : List Step) (n : ℕ) : Type 0 where
  pub within : n < length steps
  pub before : EachFollows clauses steps n
  pub here : follows clauses steps n ≡ false

-- It fails at its number of steps where every step follows and none is empty.
pub record FailsAtEnd (clauses : List (List ℤ)) (steps : List Step) (n : ℕ) : Type 0 where
  pub end : n ≡ length steps
  pub each : EachFollows clauses steps n
  pub none : (i : ℕ) → i < n → (step_at steps i).0 ≢ []

abbrev pub Fails : List (List ℤ) → List Step → ℕ → Type 0
Fails clauses steps n = FailsAtStep clauses steps n ⊎ FailsAtEnd clauses steps n

-- ---- by computing

-- the first step that does not follow from these clauses and the steps before it, counted from 0
abbrev pub first_lapse : List (List ℤ) → List Step → Option ℕ
first_lapse known [] = None
first_lapse known (step ∷ steps) = if derives known step then option_map suc (first_lapse (known ++ step.0 ∷ []) steps) else Some 0

abbrev pub is_empty : Step → Bool
is_empty ([], hints) = true
is_empty (l ∷ ls, hints) = false

abbrev pub lapse_or_end : Option ℕ → List Step → Option ℕ
lapse_or_end (Some n) steps = Some n
lapse_or_end None steps = if list_any is_empty steps then None else Some (length steps)

-- The number at which a log fails. A log without one refutes its clauses.
abbrev pub failure : List (List ℤ) → List Step → Option ℕ
failure clauses steps = lapse_or_end (first_lapse clauses steps) steps
