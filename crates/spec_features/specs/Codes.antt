-- Formulas and theories, stored as lists that give them back, by which a struct may stand for them.
use Rattle.std.specs.Prelude.{◌≡◌, refl, ℕ, Bool, false, List, [], ◌∷◌, ◌++◌, slice_index_or}
use Rattle.std.proofs.Common.{◌∙◌, ap, inl, inr, ◌⊎◌}
use Rattle.std.specs.Coded.{Coded, code_by, coded_ℕ, coded_bool, coded_list, coded⊎, coded×}
use Rattle.spec_features.specs.Formula.{Connective, Conjunction, Disjunction, Implication, Equivalence, Formula, Constant, Variable, Negation, Joined}
use Rattle.spec_features.specs.Theory.{TheoryOf}

abbrev connective_number : Connective → ℕ
connective_number Conjunction = 0
connective_number Disjunction = 1
connective_number Implication = 2
connective_number Equivalence = 3

abbrev connective_of : ℕ → Connective
connective_of n = slice_index_or (Conjunction ∷ Disjunction ∷ Implication ∷ Equivalence ∷ []) n Conjunction

-- what makes a formula of those before it: a truth, a variable, or one of the others by its number
abbrev Token : Type 0
Token = Bool ⊎ (ℕ ⊎ ℕ)

abbrev of_one : List Formula → List Formula
of_one [] = []
of_one (f ∷ fs) = Negation f ∷ fs

abbrev of_two : Connective → List Formula → List Formula
of_two c [] = []
of_two c (g ∷ []) = g ∷ []
of_two c (g ∷ f ∷ fs) = Joined c f g ∷ fs

abbrev other_step : ℕ → List Formula → List Formula
other_step n = slice_index_or (of_two Conjunction ∷ of_two Disjunction ∷ of_two Implication ∷ of_two Equivalence ∷ []) n of_one

abbrev step : Token → List Formula → List Formula
step (inl b) fs = Constant b ∷ fs
step (inr (inl n)) fs = Variable n ∷ fs
step (inr (inr n)) fs = other_step n fs

abbrev steps : List Token → List Formula → List Formula
steps [] fs = fs
steps (t ∷ ts) fs = steps ts (step t fs)

-- the tokens of the parts, and then the formula's own
abbrev tokens : Formula → List Token
tokens (Constant b) = inl b ∷ []
tokens (Variable n) = inr (inl n) ∷ []
tokens (Negation f) = tokens f ++ inr (inr 4) ∷ []
tokens (Joined c f g) = tokens f ++ (tokens g ++ inr (inr (connective_number c)) ∷ [])

steps_append : (ts us : List Token) (fs : List Formula) → steps (ts ++ us) fs ≡ steps us (steps ts fs)
steps_append [] us fs = refl
steps_append (t ∷ ts) us fs = steps_append ts us (step t fs)

joined_step : (c : Connective) (f g : Formula) (fs : List Formula) → other_step (connective_number c) (g ∷ f ∷ fs) ≡ Joined c f g ∷ fs
joined_step Conjunction f g fs = refl
joined_step Disjunction f g fs = refl
joined_step Implication f g fs = refl
joined_step Equivalence f g fs = refl

-- the tokens of a formula put it before those that wait
steps_tokens : (f : Formula) (fs : List Formula) → steps (tokens f) fs ≡ f ∷ fs
steps_tokens (Constant b) fs = refl
steps_tokens (Variable n) fs = refl
steps_tokens (Negation f) fs = steps_append (tokens f) (inr (inr 4) ∷ []) fs ∙ ap (steps (inr (inr 4) ∷ [])) (steps_tokens f fs)
steps_tokens (Joined c f g) fs =
    let last = inr (inr (connective_number c)) ∷ [] in
    steps_append (tokens f) (tokens g ++ last) fs
    ∙ ap (steps (tokens g ++ last)) (steps_tokens f fs)
    ∙ steps_append (tokens g) last (f ∷ fs)
    ∙ ap (steps last) (steps_tokens g (f ∷ fs))
    ∙ joined_step c f g fs

abbrev first_of : List Formula → Formula
first_of [] = Constant false
first_of (f ∷ fs) = f

abbrev read_back : List Token → Formula
read_back ts = first_of (steps ts [])

pub read_back-tokens : (f : Formula) → read_back (tokens f) ≡ f
read_back-tokens f = ap first_of (steps_tokens f [])

abbrev pub formula_code : Coded Formula
formula_code = code_by (List Token) (coded_list (coded⊎ coded_bool (coded⊎ coded_ℕ coded_ℕ))) tokens read_back read_back-tokens

abbrev pub theory_code : {N : Type 0} → Coded N → Coded (TheoryOf N)
theory_code {N} names =
    code_by (List N × (ℕ × List Formula)) (coded× (coded_list names) (coded× coded_ℕ (coded_list formula_code)))
    (λ t. (t.names, (t.atoms, t.constraints))) (λ p. record { names = p.0; atoms = p.1.0; constraints = p.1.1 }) (λ _. refl)
