-- What features say does not rest on what their names are, as long as different names stay different.
use Rattle.std.proofs.Common.{◌≡◌, ℕ, ◌+◌, Bool, true, false, cond, ◌&&◌, List, [], ◌∷◌, ◌++◌, length, map, filter, Option, Some, None, option_and_then, option_map, refl, sym, ap, ◌∙◌, subst}
use Rattle.std.specs.Prelude.{position, is_none}
use Rattle.std.specs.List.{AllByRecursion, position_from, list_all, filter_map, cons_option}
use Rattle.std.proofs.lemmas.Iterator.Adapters.{position_from-zero}
use Rattle.std.proofs.lemmas.List.{length-map, map-append}
use Rattle.spec_expressions.specs.Expression.{FunctionOf, UInt, IsZero, IsOnes, IsFeatureImplemented, Named, ExprOf, Boolean, Integer, Bits, Name, Not, Binary, Call, Set, Join, Slice, ExprsOf, no_exprs, expr, EachName, EachNameOfAll, FunctionHasNames, function_with_names, with_names, all_with_names}
use Rattle.spec_features.specs.Features as features
use Rattle.spec_features.specs.Features.{ParamOf, FeaturesOf, is_boolean, booleans}
use Rattle.spec_features.specs.Fact.{same_op, same_function, same_fact, same_facts}
use Rattle.spec_features.specs.Formula.{Connective, connective, Formula, Variable, Negation, Joined}
use Rattle.spec_features.specs.Theory.{TheoryOf, Met, asked_name, parameter, atom, parameter_or_atom, leaf, both_sides, formula, formulas, theory, theory_with_names, states}
use Rattle.spec_features.specs.Fits.{PinOf, unknown_pin, has_state, agrees, Fits, IsFirstFitting}
use Rattle.spec_features.specs.Clauses.{signed, last_of, constraints_from, pin_clause, variables, clauses}

same_place : {X Y : Type 0} (p : X → Bool) (q : Y → Bool) (f : X → Y) (P : X → Type 0) → ((x : X) → P x → p x ≡ q (f x)) → (i : ℕ) (xs : List X) → AllByRecursion P xs → position_from p i xs ≡ position_from q i (map f xs)
same_place p q f P same i [] all = refl
same_place p q f P same i (x ∷ xs) all =
    ap (λ b. cond b (Some i) (position_from p (i + 1) xs)) (same x all.0) ∙ ap (λ o. cond (q (f x)) (Some i) o) (same_place p q f P same (i + 1) xs all.1)

-- names of one type, some of which are held, by names of another; held names are the same where what they become is
module _ {M N : Type 0} (same : M → M → Bool) (again : N → N → Bool) (named : M → N) (Held : M → Type 0) (alike : (m n : M) → Held m → Held n → same m n ≡ again (named m) (named n)) where
  function_alike : (f g : FunctionOf M) → FunctionHasNames Held f → FunctionHasNames Held g → same_function same f g ≡ same_function again (function_with_names named f) (function_with_names named g)
  function_alike UInt UInt h k = refl
  function_alike IsZero IsZero h k = refl
  function_alike IsOnes IsOnes h k = refl
  function_alike IsFeatureImplemented IsFeatureImplemented h k = refl
  function_alike (Named m) (Named n) h k = alike m n h k
  function_alike f g h k = refl

  mutual
    fact_alike : (e f : ExprOf M) → EachName Held e → EachName Held f → same_fact same e f ≡ same_fact again (with_names named e) (with_names named f)
    fact_alike (Boolean a) (Boolean b) h k = refl
    fact_alike (Integer a) (Integer b) h k = refl
    fact_alike (Bits ds) (Bits es) h k = refl
    fact_alike (Name m) (Name n) h k = alike m n h k
    fact_alike (Not e) (Not f) h k = fact_alike e f h k
    fact_alike (Binary o l r) (Binary p l' r') h k =
        ap (λ b. same_op o p && (b && same_fact same r r')) (fact_alike l l' h.0 k.0) ∙ ap (λ b. same_op o p && (same_fact again (with_names named l) (with_names named l') && b)) (fact_alike r r' h.1 k.1)
    fact_alike (Call f es) (Call g fs) h k =
        ap (λ b. b && same_facts same es fs) (function_alike f g h.0 k.0) ∙ ap (λ b. same_function again (function_with_names named f) (function_with_names named g) && b) (facts_alike es fs h.1 k.1)
    fact_alike (Set es) (Set fs) h k = facts_alike es fs h k
    fact_alike (Join es) (Join fs) h k = facts_alike es fs h k
    fact_alike (Slice a b c) (Slice a' b' c') h k =
        ap (λ x. x && (same_fact same b b' && same_fact same c c')) (fact_alike a a' h.0 k.0)
        ∙ ap (λ x. same_fact again (with_names named a) (with_names named a') && (x && same_fact same c c')) (fact_alike b b' h.1.0 k.1.0)
        ∙ ap (λ x. same_fact again (with_names named a) (with_names named a') && (same_fact again (with_names named b) (with_names named b') && x)) (fact_alike c c' h.1.1 k.1.1)
    fact_alike e f h k = refl

    facts_alike : (es fs : ExprsOf M) → EachNameOfAll Held es → EachNameOfAll Held fs → same_facts same es fs ≡ same_facts again (all_with_names named es) (all_with_names named fs)
    facts_alike no_exprs no_exprs h k = refl
    facts_alike (expr e es) (expr f fs) h k =
        ap (λ b. b && same_facts same es fs) (fact_alike e f h.0 k.0) ∙ ap (λ b. same_fact again (with_names named e) (with_names named f) && b) (facts_alike es fs h.1 k.1)
    facts_alike es fs h k = refl

  -- ---- what an expression asks for

  asked_alike : (e : ExprOf M) → asked_name (with_names named e) ≡ option_map named (asked_name e)
  asked_alike (Name s) = refl
  asked_alike (Call IsFeatureImplemented (expr (Name s) no_exprs)) = refl
  asked_alike e = refl

  asked_held : (e : ExprOf M) (s : M) → EachName Held e → asked_name e ≡ Some s → Held s
  asked_held (Name t) s h is = let one : t ≡ s = cc in subst Held one h
  asked_held (Call IsFeatureImplemented (expr (Name t) no_exprs)) s h is = let one : t ≡ s = cc in subst Held one h.1.0
  asked_held e s h is = absurd cc

  name_place : (names : List M) (s : M) → AllByRecursion Held names → Held s → position (same s) names ≡ position (again (named s)) (map named names)
  name_place names s all held =
      position_from-zero (same s) names ∙ same_place (same s) (again (named s)) named Held (λ t h. alike s t held h) 0 names all ∙ sym (position_from-zero (again (named s)) (map named names))

  parameter_alike : (names : List M) (e : ExprOf M) → AllByRecursion Held names → EachName Held e → parameter again (map named names) (with_names named e) ≡ parameter same names e
  parameter_alike names e all held =
      ap (λ o. option_and_then (λ s. position (again s) (map named names)) o) (asked_alike e) ∙ go (asked_name e) (λ s is. asked_held e s held is)
    where
      go : (o : Option M) → ((s : M) → o ≡ Some s → Held s) → option_and_then (λ s. position (again s) (map named names)) (option_map named o) ≡ option_and_then (λ s. position (same s) names) o
      go None h = refl
      go (Some s) h = sym (name_place names s all (h s refl))

  -- ---- formulas

  -- the same is made, and the atoms have other names
  pub record Alike {A : Type 0} (m : Met M A) (n : Met N A) : Type 0 where
    pub made : n.made ≡ m.made
    pub atoms : n.atoms ≡ map (with_names named) m.atoms
    pub held : AllByRecursion (EachName Held) m.atoms

  all_last : (atoms : List (ExprOf M)) (e : ExprOf M) → AllByRecursion (EachName Held) atoms → EachName Held e → AllByRecursion (EachName Held) (atoms ++ e ∷ [])
  all_last [] e all held = (held, tt)
  all_last (a ∷ atoms) e all held = (all.0, all_last atoms e all.1 held)

  atom_alike : (before after : ℕ) (e : ExprOf M) (atoms : List (ExprOf M)) (o : Option ℕ) → after ≡ before → AllByRecursion (EachName Held) atoms → EachName Held e
      → Alike (atom before e atoms o) (atom after (with_names named e) (map (with_names named) atoms) o)
  atom_alike before after e atoms (Some k) same_count all held = record { made = ap (λ n. Variable (n + k + 1)) same_count; atoms = refl; held = all }
  atom_alike before after e atoms None same_count all held = record {
    made = ap (λ n. Variable (n + length (map (with_names named) atoms) + 1)) same_count ∙ ap (λ n. Variable (before + n + 1)) (length-map atoms (with_names named));
    atoms = sym (map-append (with_names named) atoms (e ∷ []));
    held = all_last atoms e all held;
  }

  leaf_alike : (names : List M) (e : ExprOf M) (atoms : List (ExprOf M)) → AllByRecursion Held names → AllByRecursion (EachName Held) atoms → EachName Held e
      → Alike (leaf same names e atoms) (leaf again (map named names) (with_names named e) (map (with_names named) atoms))
  leaf_alike names e atoms all_names all held =
      let P : Option ℕ → Type 0 = λ o. Alike (leaf same names e atoms) (parameter_or_atom again (map named names) (with_names named e) (map (with_names named) atoms) o) in
      subst P (sym (parameter_alike names e all_names held)) (go (parameter same names e))
    where
      places : position (same_fact same e) atoms ≡ position (same_fact again (with_names named e)) (map (with_names named) atoms)
      places =
          position_from-zero (same_fact same e) atoms
          ∙ same_place (same_fact same e) (same_fact again (with_names named e)) (with_names named) (EachName Held) (λ f h. fact_alike e f held h) 0 atoms all
          ∙ sym (position_from-zero (same_fact again (with_names named e)) (map (with_names named) atoms))

      go : (o : Option ℕ) → Alike (parameter_or_atom same names e atoms o) (parameter_or_atom again (map named names) (with_names named e) (map (with_names named) atoms) o)
      go (Some k) = record { made = refl; atoms = refl; held = all }
      go None =
          let Q : Option ℕ → Type 0 = λ o. Alike (atom (length names) e atoms (position (same_fact same e) atoms)) (atom (length (map named names)) (with_names named e) (map (with_names named) atoms) o) in
          subst Q places (atom_alike (length names) (length (map named names)) e atoms (position (same_fact same e) atoms) (length-map names named) all held)

  formula_alike : (names : List M) (e : ExprOf M) (atoms : List (ExprOf M)) (others : List (ExprOf N)) → others ≡ map (with_names named) atoms → AllByRecursion Held names → AllByRecursion (EachName Held) atoms
      → EachName Held e → Alike (formula same names e atoms) (formula again (map named names) (with_names named e) others)
  formula_alike names (Boolean b) atoms others are all_names all held = record { made = refl; atoms = are; held = all }
  formula_alike names (Not e) atoms others are all_names all held =
      let inner = formula_alike names e atoms others are all_names all held in
      record { made = ap Negation inner.made; atoms = inner.atoms; held = inner.held }
  formula_alike names (Binary op l r) atoms others are all_names all held = go (connective op) (formula_alike names l atoms others are all_names all held.0)
      (λ more. formula_alike names r (formula same names l atoms).atoms (formula again (map named names) (with_names named l) others).atoms more.atoms all_names more.held held.1)
    where
      go : (c : Option Connective) → Alike (formula same names l atoms) (formula again (map named names) (with_names named l) others)
          → (Alike (formula same names l atoms) (formula again (map named names) (with_names named l) others)
          → Alike (formula same names r (formula same names l atoms).atoms) (formula again (map named names) (with_names named r) (formula again (map named names) (with_names named l) others).atoms))
          → Alike (both_sides c (formula same names l atoms) (λ more. formula same names r more) (leaf same names (Binary op l r) atoms))
          (both_sides c (formula again (map named names) (with_names named l) others) (λ more. formula again (map named names) (with_names named r) more) (leaf again (map named names) (with_names named (Binary op l r)) others))
      go (Some c) left right_of =
          let right = right_of left in
          record {
            made = ap (λ f. Joined c f (formula again (map named names) (with_names named r) (formula again (map named names) (with_names named l) others).atoms).made) left.made
                ∙ ap (λ f. Joined c (formula same names l atoms).made f) right.made;
            atoms = right.atoms;
            held = right.held;
          }
      go None left right_of =
          let P : List (ExprOf N) → Type 0 = λ os. Alike (leaf same names (Binary op l r) atoms) (leaf again (map named names) (with_names named (Binary op l r)) os) in
          subst P (sym are) (leaf_alike names (Binary op l r) atoms all_names all held)
  formula_alike names e atoms others are all_names all held =
      let P : List (ExprOf N) → Type 0 = λ os. Alike (leaf same names e atoms) (leaf again (map named names) (with_names named e) os) in
      subst P (sym are) (leaf_alike names e atoms all_names all held)

  formulas_alike : (names : List M) (es : List (ExprOf M)) (atoms : List (ExprOf M)) (others : List (ExprOf N)) → others ≡ map (with_names named) atoms → AllByRecursion Held names → AllByRecursion (EachName Held) atoms
      → AllByRecursion (EachName Held) es → Alike (formulas same names es atoms) (formulas again (map named names) (map (with_names named) es) others)
  formulas_alike names [] atoms others are all_names all held = record { made = refl; atoms = are; held = all }
  formulas_alike names (e ∷ es) atoms others are all_names all held =
      let first = formula_alike names e atoms others are all_names all held.0 in
      let rest = formulas_alike names es (formula same names e atoms).atoms (formula again (map named names) (with_names named e) others).atoms first.atoms all_names first.held held.1 in
      record {
        made = ap (λ f. f ∷ (formulas again (map named names) (map (with_names named) es) (formula again (map named names) (with_names named e) others).atoms).made) first.made
            ∙ ap (λ fs. (formula same names e atoms).made ∷ fs) rest.made;
        atoms = rest.atoms;
        held = rest.held;
      }

  -- ---- theories

  booleans_alike : (params : List (ParamOf M)) → booleans (map (λ (p : ParamOf M). let q : ParamOf N = record { name = named p.name; kind = p.kind } in q) params) ≡ map named (booleans params)
  booleans_alike [] = refl
  booleans_alike (p ∷ params) = go (is_boolean p.kind) (booleans_alike params)
    where
      renamed : ParamOf M → ParamOf N
      renamed q = record { name = named q.name; kind = q.kind }

      go : (b : Bool) → booleans (map renamed params) ≡ map named (booleans params)
          → map (λ (q : ParamOf N). q.name) (cond b (renamed p ∷ filter (λ (q : ParamOf N). is_boolean q.kind) (map renamed params)) (filter (λ (q : ParamOf N). is_boolean q.kind) (map renamed params)))
          ≡ map named (map (λ (q : ParamOf M). q.name) (cond b (p ∷ filter (λ (q : ParamOf M). is_boolean q.kind) params) (filter (λ (q : ParamOf M). is_boolean q.kind) params)))
      go true h = ap (λ ns. named p.name ∷ ns) h
      go false h = h

  pub booleans_held : (params : List (ParamOf M)) → AllByRecursion (λ (p : ParamOf M). Held p.name) params → AllByRecursion Held (booleans params)
  booleans_held [] all = tt
  booleans_held (p ∷ params) all = go (is_boolean p.kind) (booleans_held params all.1)
    where
      go : (b : Bool) → AllByRecursion Held (booleans params)
          → AllByRecursion Held (map (λ (q : ParamOf M). q.name) (cond b (p ∷ filter (λ (q : ParamOf M). is_boolean q.kind) params) (filter (λ (q : ParamOf M). is_boolean q.kind) params)))
      go true h = (all.0, h)
      go false h = h

  pub theory_alike : (f : FeaturesOf M) → features.EachName Held f → theory again (features.with_names named f) ≡ theory_with_names named (theory same f)
  theory_alike f held =
      let names = booleans f.params in
      let es = map (with_names named) f.constraints in
      let alike_all = formulas_alike names f.constraints [] [] refl (booleans_held f.params held.params) tt held.constraints in
      let named_by : List N → TheoryOf N = λ ns. record { names = ns; atoms = length (formulas again ns es []).atoms; constraints = (formulas again ns es []).made } in
      ap named_by (booleans_alike f.params)
      ∙ ap (λ (n : ℕ). let t : TheoryOf N = record { names = map named names; atoms = n; constraints = (formulas again (map named names) es []).made } in t)
      (ap length alike_all.atoms ∙ length-map (formulas same names f.constraints []).atoms (with_names named))
      ∙ ap (λ (fs : List Formula). let t : TheoryOf N = record { names = map named names; atoms = length (formulas same names f.constraints []).atoms; constraints = fs } in t) alike_all.made

  -- ---- pins

  abbrev pub pins_named : List (PinOf M) → List (PinOf N)
  pins_named pins = map (λ (pin : PinOf M). (named pin.0, pin.1)) pins

  abbrev pub ArePinsHeld : List (PinOf M) → Type 0
  ArePinsHeld pins = AllByRecursion (λ (pin : PinOf M). Held pin.0) pins

  pub agree_alike : (names : List M) (g : List Bool) (pins : List (PinOf M)) → AllByRecursion Held names → ArePinsHeld pins
      → list_all (agrees again (map named names) g) (pins_named pins) ≡ list_all (agrees same names g) pins
  agree_alike names g [] all held = refl
  agree_alike names g (pin ∷ pins) all held =
      ap (λ o. has_state pin.1 g o && list_all (agrees again (map named names) g) (pins_named pins)) (sym (name_place names pin.0 all held.0))
      ∙ ap (λ b. agrees same names g pin && b) (agree_alike names g pins all held.1)

  unknown_from : (i : ℕ) (names : List M) (pins : List (PinOf M)) → AllByRecursion Held names → ArePinsHeld pins
      → position_from (λ (pin : PinOf N). is_none (position (again pin.0) (map named names))) i (pins_named pins) ≡ position_from (λ (pin : PinOf M). is_none (position (same pin.0) names)) i pins
  unknown_from i names [] all held = refl
  unknown_from i names (pin ∷ pins) all held =
      ap (λ o. cond (is_none o) (Some i) (position_from (λ (p : PinOf N). is_none (position (again p.0) (map named names))) (i + 1) (pins_named pins))) (sym (name_place names pin.0 all held.0))
      ∙ ap (λ o. cond (is_none (position (same pin.0) names)) (Some i) o) (unknown_from (i + 1) names pins all held.1)

  pub unknown_alike : (names : List M) (pins : List (PinOf M)) → AllByRecursion Held names → ArePinsHeld pins → unknown_pin again (map named names) (pins_named pins) ≡ unknown_pin same names pins
  unknown_alike names pins all held =
      position_from-zero (λ (pin : PinOf N). is_none (position (again pin.0) (map named names))) (pins_named pins)
      ∙ unknown_from 0 names pins all held ∙ sym (position_from-zero (λ (pin : PinOf M). is_none (position (same pin.0) names)) pins)

  pub pin_clauses_alike : (names : List M) (pins : List (PinOf M)) → AllByRecursion Held names → ArePinsHeld pins
      → filter_map (pin_clause again (map named names)) (pins_named pins) ≡ filter_map (pin_clause same names) pins
  pin_clauses_alike names [] all held = refl
  pin_clauses_alike names (pin ∷ pins) all held =
      ap (λ o. cons_option (option_map (λ k. signed pin.1 (k + 1) ∷ []) o) (filter_map (pin_clause again (map named names)) (pins_named pins))) (sym (name_place names pin.0 all held.0))
      ∙ ap (λ cs. cons_option (pin_clause same names pin) cs) (pin_clauses_alike names pins all held.1)

  pub clauses_alike : (t : TheoryOf M) (pins : List (PinOf M)) → AllByRecursion Held t.names → ArePinsHeld pins
      → clauses again (theory_with_names named t) (pins_named pins) ≡ clauses same t pins
  clauses_alike t pins all held =
      ap (λ n. constraints_from (n + t.atoms) t.constraints ++ filter_map (pin_clause again (map named t.names)) (pins_named pins)) (length-map t.names named)
      ∙ ap (λ cs. constraints_from (states t) t.constraints ++ cs) (pin_clauses_alike t.names pins all held)

  pub variables_alike : (t : TheoryOf M) → variables (theory_with_names named t) ≡ variables t
  variables_alike t = ap (λ n. last_of (n + t.atoms) t.constraints) (length-map t.names named)

  pub fits_alike : (t : TheoryOf M) (pins : List (PinOf M)) (g : List Bool) → AllByRecursion Held t.names → ArePinsHeld pins → Fits same t pins g → Fits again (theory_with_names named t) (pins_named pins) g
  fits_alike t pins g all held fits = record {
    whole = fits.whole ∙ ap (λ n. n + t.atoms) (sym (length-map t.names named));
    holding = fits.holding;
    pinned = agree_alike t.names g pins all held ∙ fits.pinned;
  }

  pub fits_back : (t : TheoryOf M) (pins : List (PinOf M)) (g : List Bool) → AllByRecursion Held t.names → ArePinsHeld pins → Fits again (theory_with_names named t) (pins_named pins) g → Fits same t pins g
  fits_back t pins g all held fits = record {
    whole = fits.whole ∙ ap (λ n. n + t.atoms) (length-map t.names named);
    holding = fits.holding;
    pinned = sym (agree_alike t.names g pins all held) ∙ fits.pinned;
  }

  pub first_alike : (t : TheoryOf M) (pins : List (PinOf M)) (g : List Bool) → AllByRecursion Held t.names → ArePinsHeld pins → IsFirstFitting same t pins g
      → IsFirstFitting again (theory_with_names named t) (pins_named pins) g
  first_alike t pins g all held first = record {
    fits = fits_alike t pins g all held first.fits;
    first = λ others fits before. first.first others (fits_back t pins others all held fits) before;
  }
