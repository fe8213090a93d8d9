-- What features and pins come to does not rest on the numbers of names.
use Rattle.std.proofs.Common.{◌≡◌, ◌↔◌, ◌∙◌, sym, ap, subst, refl, ℕ, ◌<◌, ℤ, Bool, List, [], ◌∷◌, length, map, take, drop, ◌++◌, nat_eq, bytes_eq, Some, None, Result, Ok, Err}
use Rattle.std.specs.Prelude.{IfOk, OnOk, zip, option_map}
use Rattle.std.proofs.Math.Seq.{take-append_seam, drop-append_seam}
use Rattle.std.specs.List.{AllByRecursion}
use Rattle.std.proofs.lemmas.List.{length-map}
use Rattle.spec_expressions.specs.Scope.{Flag, Parameter, Configuration}
use Rattle.spec_features.specs.Choice.{configuration_by}
use Rattle.ast_eval.specs.Choices.{Choices, parameter_of, configuration_of}
use Rattle.spec_features.specs.Features.{FeaturesOf, with_names}
use Rattle.spec_features.specs.Theory.{TheoryOf, theory, theory_with_names}
use Rattle.spec_features.specs.Fits.{PinOf, unknown_pin, Fits}
use Rattle.spec_features.specs.Clauses.{variables, clauses}
use Rattle.spec_features.proofs.Renamed as renamed
use Rattle.spec_features.proofs.ChoiceLaws.{first_is_found}
use Rattle.mrs_arena.specs.Placed.{text_of}
use Rattle.schema_draft.proofs.TakenLaws.{same_texts}
use Rattle.feat_model.specs.declared.faults.ModelFault.{ModelFault}
use Rattle.feat_model.specs.declared.faults.ModelFault.TheVariants.{UnknownFeature, NoMemory}
use Rattle.feat_model.specs.declared.outcome.Outcome.{Outcome}
use Rattle.feat_model.specs.declared.outcome.Outcome.TheVariants.{Chosen, Refuted}
use Rattle.feat_model.specs.Configures.{Configures, IsRefused}
use Rattle.feat_model.specs.Named.{pins_in, AreHeld, ComesTo, AnswersBy, Answers, IsNamed, AreClauses, AreNamedClauses}

-- states of as many names, and of atoms behind them, are those of the configuration
flags : (text : ℕ → List ℕ) (ns : List ℕ) (states : List Bool)
    → map (λ (p : List ℕ × Bool). let q : Parameter = record { name = p.0; state = Flag p.1 } in q) (zip (map text ns) states) ≡ map (parameter_of text) (zip ns (map Flag states))
flags text [] states = refl
flags text (n ∷ ns) [] = refl
flags text (n ∷ ns) (b ∷ states) = ap (λ ps. parameter_of text (n, Flag b) ∷ ps) (flags text ns states)

in_use : (text : ℕ → List ℕ) (c : Choices) (on : List Bool) (texts : List (List ℕ)) → map text c.names ≡ texts → c.states ≡ map Flag on → length on ≡ length texts
    → configuration_by (record { names = texts; atoms = length c.atoms; constraints = [] }) (on ++ c.atoms) ≡ configuration_of text c
in_use text c on texts names_are states_are as_many =
    let parameters : List ℕ × Bool → Parameter = λ p. record { name = p.0; state = Flag p.1 } in
    let made : List Parameter → List Bool → Configuration = λ ps bs. record { parameters = ps; atoms = bs } in
    ap (λ (n : ℕ). made (map parameters (zip texts (take n (on ++ c.atoms)))) (drop n (on ++ c.atoms))) (sym as_many)
    ∙ ap (λ bs. made (map parameters (zip texts bs)) (drop (length on) (on ++ c.atoms))) (take-append_seam on c.atoms)
    ∙ ap (made (map parameters (zip texts on))) (drop-append_seam on c.atoms)
    ∙ ap (λ ts. made (map parameters (zip ts on)) c.atoms) (sym names_are)
    ∙ ap (λ ps. made ps c.atoms) (flags text c.names on)
    ∙ ap (λ states. made (map (parameter_of text) (zip c.names states)) c.atoms) (sym states_are)

module _ (names : List (List ℕ)) (f : FeaturesOf ℕ) (pins : List (PinOf ℕ)) (held : AreHeld names f pins) where
  abbrev Held : ℕ → Type 0
  Held n = n < length names

  abbrev text : ℕ → List ℕ
  text n = text_of names n

  alike_held : (m n : ℕ) → Held m → Held n → nat_eq m n ≡ bytes_eq (text m) (text n)
  alike_held m n low high = same_texts names held.names_are m n low high

  all_held : AllByRecursion Held (theory nat_eq f).names
  all_held = renamed.booleans_held nat_eq bytes_eq text Held alike_held f.params held.features_are.params

  same_theory : theory bytes_eq (with_names text f) ≡ theory_with_names text (theory nat_eq f)
  same_theory = renamed.theory_alike nat_eq bytes_eq text Held alike_held f held.features_are

  same_clauses : AreClauses (theory_with_names text (theory nat_eq f)) (pins_in names pins) (variables (theory nat_eq f), clauses nat_eq (theory nat_eq f) pins)
  same_clauses =
      let t = theory nat_eq f in
      ap (λ (n : ℕ). (n, clauses nat_eq t pins)) (sym (renamed.variables_alike nat_eq bytes_eq text Held alike_held t))
      ∙ ap (λ cs. (variables (theory_with_names text t), cs)) (sym (renamed.clauses_alike nat_eq bytes_eq text Held alike_held t pins all_held held.pins_are))

  comes : (o : Outcome) → Configures (theory nat_eq f) pins o → (IsRefused o ↔ ((g : List Bool) → Fits nat_eq (theory nat_eq f) pins g → ⊥))
      → ComesTo names (theory_with_names text (theory nat_eq f)) (pins_in names pins) o
  comes (Chosen config) chosen exact =
      let t = theory nat_eq f in
      let u = theory_with_names text t in
      let g = chosen.flags ++ config.atoms in
      ap (option_map (configuration_by u)) (((first_is_found bytes_eq u (pins_in names pins)).first g).1 (renamed.first_alike nat_eq bytes_eq text Held alike_held t pins g all_held held.pins_are chosen.first))
      ∙ ap Some (in_use text config chosen.flags u.names (ap (map text) chosen.names_are) chosen.states_are (chosen.as_many ∙ sym (length-map t.names text)))
  comes (Refuted cnf log) refuted exact =
      let t = theory nat_eq f in
      record {
        none = ap (option_map (configuration_by (theory_with_names text t))) ((first_is_found bytes_eq (theory_with_names text t) (pins_in names pins)).none.1
            (λ g fits. exact.0 tt g (renamed.fits_back nat_eq bytes_eq text Held alike_held t pins g all_held held.pins_are fits)));
        clauses_are = refuted.0 ∙ same_clauses;
        refutes = refuted.1;
        written = refuted.2;
      }

  unknown : unknown_pin bytes_eq (theory_with_names text (theory nat_eq f)).names (pins_in names pins) ≡ unknown_pin nat_eq (theory nat_eq f).names pins
  unknown = renamed.unknown_alike nat_eq bytes_eq text Held alike_held (theory nat_eq f).names pins all_held held.pins_are

  answers : (r : Result Outcome ModelFault) → IfOk r (λ o. Configures (theory nat_eq f) pins o) → IfOk r (λ o. IsRefused o ↔ ((g : List Bool) → Fits nat_eq (theory nat_eq f) pins g → ⊥))
      → OnOk r (unknown_pin nat_eq (theory nat_eq f).names pins ≡ None) → ((k : ℕ) → r ≡ Err (UnknownFeature k) → unknown_pin nat_eq (theory nat_eq f).names pins ≡ Some k)
      → Answers names (theory_with_names text (theory nat_eq f)) (pins_in names pins) r
  answers (Ok o) outcome exact known none = (unknown ∙ known, comes o outcome exact)
  answers (Err (UnknownFeature k)) outcome exact known none = unknown ∙ none k refl
  answers (Err NoMemory) outcome exact known none = tt

  clause_answers : (r : Result (ℕ × List (List ℤ)) ModelFault) → IfOk r (λ c. c ≡ (variables (theory nat_eq f), clauses nat_eq (theory nat_eq f) pins))
      → OnOk r (unknown_pin nat_eq (theory nat_eq f).names pins ≡ None) → ((k : ℕ) → r ≡ Err (UnknownFeature k) → unknown_pin nat_eq (theory nat_eq f).names pins ≡ Some k)
      → AnswersBy (AreClauses (theory_with_names text (theory nat_eq f)) (pins_in names pins)) (theory_with_names text (theory nat_eq f)) (pins_in names pins) r
  clause_answers (Ok c) made known none = (unknown ∙ known, made ∙ same_clauses)
  clause_answers (Err (UnknownFeature k)) made known none = unknown ∙ none k refl
  clause_answers (Err NoMemory) made known none = tt

pub named_result : (t : TheoryOf ℕ) (pins : List (PinOf ℕ)) (r : Result Outcome ModelFault) → IfOk r (λ o. Configures t pins o) → IfOk r (λ o. IsRefused o ↔ ((g : List Bool) → Fits nat_eq t pins g → ⊥))
    → OnOk r (unknown_pin nat_eq t.names pins ≡ None) → ((k : ℕ) → r ≡ Err (UnknownFeature k) → unknown_pin nat_eq t.names pins ≡ Some k) → IsNamed t pins r
named_result t pins r outcome exact known none names f held is =
    let P : TheoryOf (List ℕ) → Type 0 = λ u. Answers names u (pins_in names pins) r in
    let Q : TheoryOf ℕ → Type 0 = λ u. IfOk r (λ o. Configures u pins o) in
    let R : TheoryOf ℕ → Type 0 = λ u. IfOk r (λ o. IsRefused o ↔ ((g : List Bool) → Fits nat_eq u pins g → ⊥)) in
    let S : TheoryOf ℕ → Type 0 = λ u. OnOk r (unknown_pin nat_eq u.names pins ≡ None) in
    let T : TheoryOf ℕ → Type 0 = λ u. (k : ℕ) → r ≡ Err (UnknownFeature k) → unknown_pin nat_eq u.names pins ≡ Some k in
    subst P (sym (same_theory names f pins held)) (answers names f pins held r (subst Q is outcome) (subst R is exact) (subst S is known) (subst T is none))

pub named_clauses : (t : TheoryOf ℕ) (pins : List (PinOf ℕ)) (r : Result (ℕ × List (List ℤ)) ModelFault) → IfOk r (λ c. c ≡ (variables t, clauses nat_eq t pins))
    → OnOk r (unknown_pin nat_eq t.names pins ≡ None) → ((k : ℕ) → r ≡ Err (UnknownFeature k) → unknown_pin nat_eq t.names pins ≡ Some k) → AreNamedClauses t pins r
named_clauses t pins r made known none names f held is =
    let P : TheoryOf (List ℕ) → Type 0 = λ u. AnswersBy (AreClauses u (pins_in names pins)) u (pins_in names pins) r in
    let Q : TheoryOf ℕ → Type 0 = λ u. IfOk r (λ c. c ≡ (variables u, clauses nat_eq u pins)) in
    let S : TheoryOf ℕ → Type 0 = λ u. OnOk r (unknown_pin nat_eq u.names pins ≡ None) in
    let T : TheoryOf ℕ → Type 0 = λ u. (k : ℕ) → r ≡ Err (UnknownFeature k) → unknown_pin nat_eq u.names pins ≡ Some k in
    subst P (sym (same_theory names f pins held)) (clause_answers names f pins held r (subst Q is made) (subst S is known) (subst T is none))
