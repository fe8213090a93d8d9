-- The configuration in use is the first that fits; where there is none, none fits; and the text of a refutation is checked.
use Rattle.std.proofs.Common.{◌≡◌, refl, ap, ◌∙◌, ℕ, ℤ, Bool, List, Option, Some, None, Ok, Err, bytes_eq, option_map}
use Rattle.spec_expressions.specs.Scope.{Configuration}
use Rattle.spec_features.specs.Theory.{TheoryOf, theory}
use Rattle.spec_features.specs.Fits.{unknown_pin}
use Rattle.spec_features.specs.Choice.{configuration_by, first_fitting, first_configuration}
use Rattle.spec_features.specs.Clauses.{variables, clauses}
use Rattle.spec_features.proofs.ChoiceLaws.{firsts_are_found}
use Rattle.spec_refutation.proofs.LogReadings.{log_is_read}
use Rattle.spec_refutation.proofs.Failures.{refutes_tells}
use Rattle.spec_command.specs.Pins.{Pin}
use Rattle.spec_lines.specs.LogLine.{refuted_line}
use Rattle.spec_run.specs.Opening.{UnknownPin, NoneFits, fitting, pins_known}
use Rattle.spec_run.specs.Logs.{Checked}
use Rattle.spec_run.specs.First.{FirstIsInUse, NoneIsInUse, PinIsUnknown, RefutationsAreChecked, RefutationsAreTold}
use Rattle.spec_run.proofs.UnknownPins.{all_known, found_unknown, unknown_found}
use Rattle.spec_run.proofs.Logs.{log_is_opened, refuted_is_told}

module _ (t : TheoryOf (List ℕ)) (pins : List Pin) where
  -- each pin is known
  known_used : (g : Configuration) (unknown : Option ℕ) → pins_known t pins unknown ≡ Ok g → (unknown ≡ None) × (fitting t pins (first_configuration t pins) ≡ Ok g)
  known_used g (Some pin) e = absurd cc
  known_used g None e = (refl, e)

  known_none : (n : ℕ) (said : List (List ℤ)) (unknown : Option ℕ) → pins_known t pins unknown ≡ Err (NoneFits n said)
      → (unknown ≡ None) × (fitting t pins (first_configuration t pins) ≡ Err (NoneFits n said))
  known_none n said (Some pin) e = absurd cc
  known_none n said None e = (refl, e)

  -- some states are found
  some_found : (g : Configuration) (found : Option (List Bool)) → fitting t pins (option_map (configuration_by t) found) ≡ Ok g → (states : List Bool) × (found ≡ Some states) × (g ≡ configuration_by t states)
  some_found g None e = absurd cc
  some_found g (Some states) e = (states, refl, cc)

  -- none are
  none_found : (n : ℕ) (said : List (List ℤ)) (found : Option (List Bool)) → fitting t pins (option_map (configuration_by t) found) ≡ Err (NoneFits n said)
      → (found ≡ None) × (n ≡ variables t) × (said ≡ clauses bytes_eq t pins)
  none_found n said None e = (refl, cc, cc)
  none_found n said (Some states) e = absurd cc

  -- a pin is told where one is not known
  unknown_told : (i : ℕ) (unknown : Option ℕ) → pins_known t pins unknown ≡ Err (UnknownPin i) → unknown ≡ Some i
  unknown_told i (Some pin) e = cc
  unknown_told i None e = absurd (not_fitting (first_configuration t pins) e)
    where
      not_fitting : (found : Option Configuration) → fitting t pins found ≡ Err (UnknownPin i) → ⊥
      not_fitting None e = absurd cc
      not_fitting (Some g) e = absurd cc

pub first_is_in_use : FirstIsInUse
first_is_in_use features pins g e =
    let t : TheoryOf (List ℕ) = theory bytes_eq features in
    let known = known_used t pins g (unknown_pin bytes_eq t.names pins) e in
    let h = some_found t pins g (first_fitting bytes_eq t pins) known.1 in
    record { known = all_known features pins known.0; states = h.0; first = ((firsts_are_found t pins).first h.0).0 h.1; is = h.2 }

pub none_is_in_use : NoneIsInUse
none_is_in_use features pins n said e =
    let t : TheoryOf (List ℕ) = theory bytes_eq features in
    let known = known_none t pins n said (unknown_pin bytes_eq t.names pins) e in
    let h = none_found t pins n said (first_fitting bytes_eq t pins) known.1 in
    record { known = all_known features pins known.0; none = (firsts_are_found t pins).none.0 h.0; variables_are = h.1; clauses_are = h.2 }

pub pin_is_unknown : PinIsUnknown
pin_is_unknown features pins i =
    let t : TheoryOf (List ℕ) = theory bytes_eq features in
    (λ e. found_unknown features pins i (unknown_told t pins i (unknown_pin bytes_eq t.names pins) e), λ is. ap (pins_known t pins) (unknown_found features pins i is))

pub refutations_are_checked : RefutationsAreChecked
refutations_are_checked n said steps text h = record {
  log = record { vars = n; clauses = said; steps = h.log };
  read = log_is_read text n said h.log (record { bounds = h.is_log; printed = h.text_is });
  variables_are = refl;
  clauses_are = refl;
  count = h.count;
  refutes = refutes_tells said h.log h.refutes;
}

pub refutations_are_told : RefutationsAreTold
refutations_are_told n said steps text h =
    let log : Checked = record { clauses = said; steps = h.log } in
    record {
      log = log;
      opens = log_is_opened text n said h.log (record { bounds = h.is_log; printed = h.text_is });
      line = refuted_is_told log h.refutes ∙ ap refuted_line h.count;
    }
