-- The first pin that names no boolean parameter.
use Rattle.std.proofs.Common.{◌≡◌, refl, sym, ap, ◌∙◌, inl, inr, ℕ, ◌<◌, arith, Bool, true, false, List, [], length, get_or, position, All, Contains, Option, Some, None, is_none, bytes_eq}
use Rattle.std.specs.List.{position_or_len}
use Rattle.std.proofs.lemmas.Bool.{cases_lt}
use Rattle.std.proofs.lemmas.Grind.{common_steps}
use Rattle.std.proofs.lemmas.List.Sums.{fails_before_first, position_or_len_is}
use Rattle.std.proofs.lemmas.List.Quantifiers.{position-Some}
use Rattle.std.proofs.lemmas.Option.{slice_get-get_or, get_or_from_slice_get, slice_get_within}
use Rattle.std.proofs.lemmas.Slice.Eq.{bytes_eq-Decides}
use Rattle.spec_features.specs.Features.{Features, booleans}
use Rattle.spec_features.specs.Fits.{unknown_pin}
use Rattle.spec_command.specs.Pins.{Pin}
use Rattle.spec_run.specs.First.{NamesBoolean, IsUnknown}

-- ---- places

-- where no element passes, each fails
position-None : {X : Type 0} (p : X → Bool) (xs : List X) (k : ℕ) (d : X) → position p xs ≡ None → k < length xs → p (get_or xs k d) ≡ false
position-None p xs k d none low = elim (cases_lt (position_or_len p xs) (length xs)) [
  | inl lt ↦ absurd (grind (arith, common_steps))
  | inr le ↦ fails_before_first p xs k d (omega (arith, le, low))
]

-- the first that passes
position_is : {X : Type 0} (p : X → Bool) (xs : List X) (i : ℕ) (d : X) → i < length xs → ((k : ℕ) → k < i → p (get_or xs k d) ≡ false) → p (get_or xs i d) ≡ true → position p xs ≡ Some i
position_is p xs i d low before here =
    let at : position_or_len p xs ≡ i = position_or_len_is p xs i d (omega (arith, low)) before (λ lt. here) in
    grind (arith, common_steps)

-- ---- pins

module _ (names : List (List ℕ)) where
  abbrev is_unknown : Pin → Bool
  is_unknown pin = is_none (position (bytes_eq pin.0) names)

  named : (pin : Pin) → is_unknown pin ≡ false → Contains names pin.0
  named pin e = go (position (bytes_eq pin.0) names) refl e
    where
      go : (o : Option ℕ) → position (bytes_eq pin.0) names ≡ o → is_none o ≡ false → Contains names pin.0
      go None at e = absurd cc
      go (Some k) at e =
          let h = position-Some (bytes_eq pin.0) names k pin.0 at in
          (k, h.0, sym ((bytes_eq-Decides pin.0 (get_or names k pin.0)).0 h.1))

  is_named : (pin : Pin) → Contains names pin.0 → is_unknown pin ≡ false
  is_named pin h = go (position (bytes_eq pin.0) names) refl
    where
      go : (o : Option ℕ) → position (bytes_eq pin.0) names ≡ o → is_none o ≡ false
      go (Some k) at = refl
      go None at =
          let fails : bytes_eq pin.0 (get_or names h.0 pin.0) ≡ false = position-None (bytes_eq pin.0) names h.0 pin.0 at h.1 in
          let passes : bytes_eq pin.0 (get_or names h.0 pin.0) ≡ true = (bytes_eq-Decides pin.0 (get_or names h.0 pin.0)).1 (sym h.2) in
          absurd cc

  unnamed : (pin : Pin) → ¬ Contains names pin.0 → is_unknown pin ≡ true
  unnamed pin never = go (is_unknown pin) refl
    where
      go : (b : Bool) → is_unknown pin ≡ b → b ≡ true
      go true e = refl
      go false e = absurd (never (named pin e))

abbrev no_pin : Pin
no_pin = ([], false)

module _ (features : Features) (pins : List Pin) where
  abbrev names : List (List ℕ)
  names = booleans features.params

  pub all_known : unknown_pin bytes_eq names pins ≡ None → All (NamesBoolean features) pins
  all_known none k d low = named names (get_or pins k d) (position-None (is_unknown names) pins k d none low)

  pub found_unknown : (i : ℕ) → unknown_pin bytes_eq names pins ≡ Some i → IsUnknown features pins i
  found_unknown i found =
      let h = position-Some (is_unknown names) pins i no_pin found in
      record {
        pin = get_or pins i no_pin;
        there = slice_get-get_or pins i no_pin h.0;
        unknown = λ is. let known = is_named names (get_or pins i no_pin) is in let none = h.1 in absurd cc;
        before = λ k earlier low at. named names earlier (ap (is_unknown names) (sym (get_or_from_slice_get pins k earlier no_pin at)) ∙ h.2 k low);
      }

  pub unknown_found : (i : ℕ) → IsUnknown features pins i → unknown_pin bytes_eq names pins ≡ Some i
  unknown_found i is =
      let within : i < length pins = slice_get_within pins i is.pin is.there in
      position_is (is_unknown names) pins i no_pin within
      (λ k low. is_named names (get_or pins k no_pin) (is.before k (get_or pins k no_pin) low (slice_get-get_or pins k no_pin (omega (arith, low, within)))))
      (ap (is_unknown names) (get_or_from_slice_get pins i is.pin no_pin is.there) ∙ unnamed names is.pin is.unknown)
