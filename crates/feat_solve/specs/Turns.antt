-- What each turn makes of the search, and what holds at its end.
use Rattle.std.specs.Prelude.{◌≡◌, ℕ, ◌+◌, ◌<◌, ◌≤◌, ℤ, false, List, ◌++◌, map, length, Option, Some, None}
use Rattle.std.specs.List.{list_any, AllByRecursion}
use Rattle.spec_refutation.specs.Derivation.{falsified}
use Rattle.spec_refutation.specs.Reading.{IsClause}
use Rattle.spec_refutation.specs.First.{IsRefutation}
use Rattle.feat_solve.specs.Trail.{literals, IsState, Complete, weight}
use Rattle.feat_solve.specs.declared.search.Search.{Search}
use Rattle.feat_solve.specs.declared.search.End.{End}
use Rattle.feat_solve.specs.declared.search.End.TheVariants.{Found, Closed}

-- the clauses, and behind them those of the steps
abbrev pub known : Search → List (List ℤ)
known s = s.clauses.now ++ map (λ step. step.0) s.steps.items

-- a search over these variables of these clauses
pub record HasClauses (vars : ℕ) (clauses : List (List ℤ)) (s : Search) : Type 0 where
  pub vars_are : s.vars ≡ vars
  pub clauses_are : s.clauses.now ≡ clauses

-- the variables and the clauses stay
abbrev pub Keeps : Search → Search → Type 0
Keeps old new = HasClauses old.vars old.clauses.now new

-- so few that each clause and step has a number
pub record HasFewLines (s : Search) : Type 0 where
  pub few_clauses : length s.clauses.now < 2147483648
  pub few : length s.clauses.now + length s.steps.items ≤ 18446744073709551615

-- What holds before each turn.
pub record IsReady (s : Search) : Type 0 where
  pub vars : s.vars ≤ 2147483647
  pub within : AllByRecursion (IsClause s.vars) s.clauses.now
  pub few : length s.clauses.now < 2147483648
  pub state : IsState s.vars s.clauses.now s.steps.items s.trail

-- The trail gives each variable a value and falsifies no clause; or the steps are a log that refutes.
abbrev pub EndIs : Search → End → Type 0
EndIs s Found = IsReady s × Complete s.vars s.trail × (list_any (falsified (literals s.trail)) s.clauses.now ≡ false)
EndIs s Closed = IsRefutation s.vars s.clauses.now s.steps.items

-- Of a turn: a heavier trail, or the end.
abbrev pub TurnIs : Search → Search → Option End → Type 0
TurnIs old new None = IsReady new × (weight old.vars old.trail < weight old.vars new.trail)
TurnIs old new (Some end) = EndIs new end
