-- The clauses of formulas, as G. S. Tseitin's transformation makes them ("On the complexity of derivation in propositional
-- calculus", 1968): a literal for each part, and clauses by which it is true where the part is. A new variable, an
-- auxiliary, is taken for each connective but Not, behind those of its parts.
use Rattle.std.specs.Prelude.{ℕ, ◌+◌, ℤ, pos, neg_ℤ, Bool, true, false, List, [], ◌∷◌, ◌++◌, flat_map, Option, position}
use Rattle.std.specs.List.{filter_map}
use Rattle.std.specs.Option.{option_map}
use Rattle.spec_features.specs.Formula.{Connective, Conjunction, Disjunction, Implication, Equivalence, Formula, Constant, Variable, Negation, Joined}
use Rattle.spec_features.specs.Theory.{TheoryOf, states}
use Rattle.spec_features.specs.Fits.{PinOf}

-- the literal of a variable that is to be on, or off
abbrev pub signed : Bool → ℕ → ℤ
signed true n = pos n
signed false n = neg_ℤ (pos n)

-- what is made of a formula: its clauses, its literal, and the greatest variable up to its end
pub record Encoded : Type 0 where
  pub clauses : List (List ℤ)
  pub literal : ℤ
  pub last : ℕ

-- v is true where a or b is
abbrev pub either_clauses : ℤ → ℤ → ℤ → List (List ℤ)
either_clauses v a b = (v ∷ neg_ℤ a ∷ []) ∷ (v ∷ neg_ℤ b ∷ []) ∷ (neg_ℤ v ∷ a ∷ b ∷ []) ∷ []

-- v is true where the connective of a and b is
abbrev pub table : Connective → ℤ → ℤ → ℤ → List (List ℤ)
table Conjunction v a b = (neg_ℤ v ∷ a ∷ []) ∷ (neg_ℤ v ∷ b ∷ []) ∷ (v ∷ neg_ℤ a ∷ neg_ℤ b ∷ []) ∷ []
table Disjunction v a b = either_clauses v a b
table Implication v a b = either_clauses v (neg_ℤ a) b
table Equivalence v a b = (neg_ℤ v ∷ neg_ℤ a ∷ b ∷ []) ∷ (neg_ℤ v ∷ a ∷ neg_ℤ b ∷ []) ∷ (v ∷ a ∷ b ∷ []) ∷ (v ∷ neg_ℤ a ∷ neg_ℤ b ∷ []) ∷ []

-- the left side, the right side, and then the next variable
abbrev pub joined : Connective → Encoded → Encoded → Encoded
joined c l r = record {
  clauses = l.clauses ++ (r.clauses ++ table c (pos (r.last + 1)) l.literal r.literal);
  literal = pos (r.last + 1);
  last = r.last + 1;
}

-- a formula, behind the variables up to a last one
abbrev pub encoded : ℕ → Formula → Encoded
encoded last (Constant b) = record { clauses = (signed b (last + 1) ∷ []) ∷ []; literal = pos (last + 1); last = last + 1 }
encoded last (Variable n) = record { clauses = []; literal = pos n; last = last }
encoded last (Negation f) = let e = encoded last f in record { clauses = e.clauses; literal = neg_ℤ e.literal; last = e.last }
encoded last (Joined c f g) = let l = encoded last f in joined c l (encoded l.last g)

-- formulas one behind the other
abbrev pub all_encoded : ℕ → List Formula → List Encoded
all_encoded last [] = []
all_encoded last (f ∷ fs) = let e = encoded last f in e ∷ all_encoded e.last fs

-- the greatest variable behind formulas
abbrev pub last_of : ℕ → List Formula → ℕ
last_of last [] = last
last_of last (f ∷ fs) = last_of (encoded last f).last fs

-- the clauses of a constraint, and behind them that of its literal alone
abbrev pub constraint_clauses : Encoded → List (List ℤ)
constraint_clauses e = e.clauses ++ (e.literal ∷ []) ∷ []

-- those of constraints one behind the other, behind the variables up to a last one
abbrev pub constraints_from : ℕ → List Formula → List (List ℤ)
constraints_from last fs = flat_map constraint_clauses (all_encoded last fs)

-- the clause of a pin: the variable of its parameter, or the negation
abbrev pub pin_clause : {N : Type 0} → (N → N → Bool) → List N → PinOf N → Option (List ℤ)
pin_clause same names pin = option_map (λ k. signed pin.1 (k + 1) ∷ []) (position (same pin.0) names)

-- the number of all variables, and the clauses: of the constraints in order, and then of the pins in order
abbrev pub variables : {N : Type 0} → TheoryOf N → ℕ
variables t = last_of (states t) t.constraints

abbrev pub clauses : {N : Type 0} → (N → N → Bool) → TheoryOf N → List (PinOf N) → List (List ℤ)
clauses same t pins = constraints_from (states t) t.constraints ++ filter_map (pin_clause same t.names) pins

-- the clauses of the connectives alone
abbrev pub connective_clauses : {N : Type 0} → TheoryOf N → List (List ℤ)
connective_clauses t = flat_map (λ e. e.clauses) (all_encoded (states t) t.constraints)
