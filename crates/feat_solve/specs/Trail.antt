-- The trail of a search: literals with the number of the clause that forced each, or none where it was
-- decided. The newest stands first.
use Rattle.std.specs.Prelude.{◌≡◌, ◌==◌, ℕ, suc, ◌+◌, ◌-◌, ◌^◌, ◌<◌, ◌≤◌, ℤ, pos, nat_abs, Bool, true, false, List, [], ◌∷◌, ◌++◌, map, length, slice_index_or, Option, Some, None}
use Rattle.std.specs.List.{list_any, AllByRecursion}
use Rattle.std.specs.Option.{option_map_or}
use Rattle.spec_refutation.specs.Derivation.{Step, has, falsified, clause_numbered, the_open}
use Rattle.spec_refutation.specs.Refutation.{EachFollows}
use Rattle.spec_refutation.specs.Reading.{IsLiteral, IsClause}

abbrev pub Entry : Type 0
Entry = ℤ × Option ℕ

abbrev pub literals : List Entry → List ℤ
literals [] = []
literals (e ∷ es) = e.0 ∷ literals es

-- whether the variable has a value
abbrev pub valued : List Entry → ℕ → Bool
valued es x = list_any (λ (e : Entry). nat_abs e.0 == x) es

-- the decided literals, newest first
abbrev pub decisions : List Entry → List ℤ
decisions [] = []
decisions ((l, None) ∷ es) = l ∷ decisions es
decisions ((l, Some h) ∷ es) = decisions es

-- the trail below the last decision
abbrev pub below : List Entry → List Entry
below [] = []
below ((l, None) ∷ es) = es
below ((l, Some h) ∷ es) = below es

abbrev pub last_decided : List Entry → Option ℤ
last_decided [] = None
last_decided ((l, None) ∷ es) = Some l
last_decided ((l, Some h) ∷ es) = last_decided es

-- a decided literal is positive, and each smaller variable has a value
pub record Decided (es : List Entry) (l : ℤ) : Type 0 where
  pub positive : l ≡ pos (nat_abs l)
  pub least : (x : ℕ) → 0 < x → x < nat_abs l → valued es x ≡ true

-- why a literal stands: it was decided, or it is the one open literal of a clause
abbrev pub Why : List (List ℤ) → List Entry → ℤ → Option ℕ → Type 0
Why known es l None = Decided es l
Why known es l (Some h) = the_open known (literals es) h ≡ Some l

pub record Stands (vars : ℕ) (known : List (List ℤ)) (es : List Entry) (e : Entry) : Type 0 where
  pub within : IsLiteral vars e.0
  pub free : valued es (nat_abs e.0) ≡ false
  pub why : Why known es e.0 e.1

abbrev pub IsTrail : ℕ → List (List ℤ) → List Entry → Type 0
IsTrail vars known [] = Unit {0}
IsTrail vars known (e ∷ es) = Stands vars known es e × IsTrail vars known es

-- the trail falsifies the clause of this number
abbrev pub Conflicts : List (List ℤ) → List Entry → ℕ → Type 0
Conflicts known es h = option_map_or (falsified (literals es)) (clause_numbered known h) false ≡ true

-- An entry weighs the more the fewer decisions stand below it.
unfoldable pub weight : ℕ → List Entry → ℕ
weight vars [] = 0
weight vars (e ∷ es) = (vars + 1) ^ (vars - length (decisions (e ∷ es))) + weight vars es

-- the states of a trail
abbrev pub AreStates : ℕ → List Entry → List Bool → Type 0
AreStates vars es states = (length states ≡ vars)
    × ((k : ℕ) → k < vars → slice_index_or states k false ≡ has (literals es) (pos (suc k)))

-- each variable has a value
abbrev pub Complete : ℕ → List Entry → Type 0
Complete vars es = (x : ℕ) → 0 < x → x ≤ vars → valued es x ≡ true

-- The state of a search at each turn.
pub record IsState (vars : ℕ) (clauses : List (List ℤ)) (steps : List Step) (es : List Entry) : Type 0 where
  pub trail : IsTrail vars (clauses ++ map (λ s. s.0) steps) es
  pub follow : EachFollows clauses steps (length steps)
  pub within : AllByRecursion (λ (s : Step). IsClause vars s.0) steps
  pub few : length clauses + length steps ≤ 18446744073709551615
