-- The steps that a conflict teaches: the negations of literals of the trail on which it depends.
use Rattle.std.specs.Prelude.{ℕ, ℤ, neg_ℤ, Bool, false, cond, List, [], ◌∷◌, ◌++◌, map, reverse, Some, None}
use Rattle.std.specs.Option.{option_map_or}
use Rattle.spec_refutation.specs.Derivation.{Step, has, clause_numbered}
use Rattle.feat_solve.specs.Trail.{Entry}

-- the negations of a clause's literals
abbrev pub causes : List (List ℤ) → ℕ → List ℤ
causes known h = option_map_or (map neg_ℤ) (clause_numbered known h) []

-- For each entry, newest first, whether the chain of reasons is cut at it; past the end of the list it is not.
abbrev pub is_cut : List Bool → Bool
is_cut [] = false
is_cut (b ∷ cuts) = b

abbrev pub cuts_below : List Bool → List Bool
cuts_below [] = []
cuts_below (b ∷ cuts) = cuts

-- The literals on which these depend: decisions, and forced ones at which the chain is cut.
abbrev pub grounds : List (List ℤ) → List Bool → List ℤ → List Entry → List ℤ
grounds known cuts N [] = []
grounds known cuts N ((l, None) ∷ es) = cond (has N l) (l ∷ grounds known (cuts_below cuts) N es) (grounds known (cuts_below cuts) N es)
grounds known cuts N ((l, Some h) ∷ es) = cond (has N l)
    (cond (is_cut cuts) (l ∷ grounds known (cuts_below cuts) N es) (grounds known (cuts_below cuts) (N ++ causes known h) es))
    (grounds known (cuts_below cuts) N es)

-- the clauses through which they do, newest first
abbrev pub chain : List (List ℤ) → List Bool → List ℤ → List Entry → List ℕ
chain known cuts N [] = []
chain known cuts N ((l, None) ∷ es) = chain known (cuts_below cuts) N es
chain known cuts N ((l, Some h) ∷ es) = cond (has N l)
    (cond (is_cut cuts) (chain known (cuts_below cuts) N es) (h ∷ chain known (cuts_below cuts) (N ++ causes known h) es))
    (chain known (cuts_below cuts) N es)

-- What the conflict with the clause of this number teaches. Without cuts it is of decisions alone.
abbrev pub learnt : List (List ℤ) → List Bool → List Entry → ℕ → Step
learnt known cuts es h = (map neg_ℤ (grounds known cuts (causes known h) es), reverse (h ∷ chain known cuts (causes known h) es))

-- The trail once levels are taken back while the clause does not have the negation of their decision: `keep`
-- is the trail whose last level is looked at.
abbrev pub settled : List ℤ → List Entry → List Entry → List Entry
settled c keep [] = keep
settled c keep ((l, None) ∷ es) = cond (has c (neg_ℤ l)) keep (settled c es es)
settled c keep ((l, Some h) ∷ es) = settled c keep es
