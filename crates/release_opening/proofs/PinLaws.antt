-- Pins whose names are held stay those that they were, also when more names are held.
use Rattle.std.proofs.Common.{◌≡◌, ◌∙◌, refl, sym, ap, subst, ℕ, ◌<◌, ◌≤◌, Bool, List, [], ◌∷◌, ◌++◌, length, map, Some, All, arith, append_assoc, length-append}
use Rattle.std.specs.List.{AllByRecursion}
use Rattle.std.proofs.lemmas.List.Elements.{All-from_recursion}
use Rattle.std.proofs.lemmas.Option.{get_or_from_slice_get}
use Rattle.std.proofs.lemmas.Simd.{map-map}
use Rattle.mrs_names.specs.declared.name_id.NameId.{NameId}
use Rattle.std.proofs.lemmas.List.{length-map, map-append, append-nil, get_or_append_left}
use Rattle.spec_names.specs.Distinct.{distinct}
use Rattle.spec_features.specs.Features.{booleans_alone}
use Rattle.spec_features.specs.Fits.{PinOf}
use Rattle.spec_command.specs.Pins.{Pin}
use Rattle.spec_run.specs.Opening.{pinned}
use Rattle.mrs_names.specs.Texts.{AreNames, IsExtended, place_of}
use Rattle.mrs_names.proofs.PlaceLaws.{place_of-at, place_of-lt}
use Rattle.mrs_arena.specs.Placed.{text_of}
use Rattle.features_reader.specs.declared.features.Features.{Features}
use Rattle.features_reader.specs.FeatureViews.{AreFeatures, AreNamed}
use Rattle.feat_model.specs.Named.{pins_in}
use Rattle.release_opening.specs.Pinned.{ArePins}
use Rattle.release_opening.specs.Stages.{AreTheirs}

longer : (old new : List (List ℕ)) → IsExtended old new → length old ≤ length new
longer old new extended = omega (arith, ap length extended.whole, length-append old extended.more)

text_kept : (old new : List (List ℕ)) → IsExtended old new → (n : ℕ) → n < length old → text_of new n ≡ text_of old n
text_kept old new extended n within = ap (λ names. text_of names n) extended.whole ∙ get_or_append_left old extended.more [] n within

pub pins_kept : (old new : List (List ℕ)) → IsExtended old new → (pins : List (PinOf ℕ)) → AllByRecursion (λ (pin : PinOf ℕ). pin.0 < length old) pins → pins_in new pins ≡ pins_in old pins
pins_kept old new extended [] held = refl
pins_kept old new extended (pin ∷ pins) held =
    ap (λ text. (text, pin.1) ∷ pins_in new pins) (text_kept old new extended pin.0 held.0)
    ∙ ap (λ ps. (text_of old pin.0, pin.1) ∷ ps) (pins_kept old new extended pins held.1)

pub held_kept : (old new : List (List ℕ)) → IsExtended old new → (pins : List (PinOf ℕ)) → AllByRecursion (λ (pin : PinOf ℕ). pin.0 < length old) pins → AllByRecursion (λ (pin : PinOf ℕ). pin.0 < length new) pins
held_kept old new extended [] held = held
held_kept old new extended (pin ∷ pins) held =
    let low : pin.0 < length old = held.0 in
    let more : length old ≤ length new = longer old new extended in
    let here : pin.0 < length new = omega (arith, low, more) in
    (here, held_kept old new extended pins held.1)

pub pins_later : (old new : List (List ℕ)) → IsExtended old new → (pins : List (PinOf ℕ)) (asked : List Pin) → ArePins old pins asked → ArePins new pins asked
pins_later old new extended pins asked are = record {
  are = pins_kept old new extended pins are.held ∙ are.are;
  held = held_kept old new extended pins are.held;
  count = are.count;
}

-- ---- one more pin

held-append : (bound : ℕ) (pins : List (PinOf ℕ)) (pin : PinOf ℕ) → AllByRecursion (λ (p : PinOf ℕ). p.0 < bound) pins → pin.0 < bound → AllByRecursion (λ (p : PinOf ℕ). p.0 < bound) (pins ++ pin ∷ [])
held-append bound [] pin held low = (low, tt)
held-append bound (p ∷ pins) pin held low = (held.0, held-append bound pins pin held.1 low)

-- what was read of the pins that are asked for, with what is left of them
pub record ReadPins (names : List (List ℕ)) (pins : List (PinOf ℕ)) (left asked : List Pin) : Type 0 where
  pub are : pins_in names pins ++ left ≡ asked
  pub held : AllByRecursion (λ (pin : PinOf ℕ). pin.0 < length names) pins

pub one_pin : (old new : List (List ℕ)) (pins : List (PinOf ℕ)) (left asked : List Pin) (name : List ℕ) (on : Bool) (n : ℕ) → IsExtended old new → place_of name new ≡ Some n → ReadPins old pins ((name, on) ∷ left) asked
    → ReadPins new (pins ++ (n, on) ∷ []) left asked
one_pin old new pins left asked name on n extended place read =
    let text : text_of new n ≡ name = get_or_from_slice_get new n name [] (place_of-at name new n place) in
    record {
      are =
          ap (λ ps. ps ++ left) (map-append (λ (pin : PinOf ℕ). (text_of new pin.0, pin.1)) pins ((n, on) ∷ []))
          ∙ append_assoc (pins_in new pins) ((text_of new n, on) ∷ []) left
          ∙ ap (λ t. pins_in new pins ++ (t, on) ∷ left) text
          ∙ ap (λ ps. ps ++ (name, on) ∷ left) (pins_kept old new extended pins read.held)
          ∙ read.are;
      held = held-append (length new) pins (n, on) (held_kept old new extended pins read.held) (place_of-lt name new n place);
    }

-- ---- all pins

pub all_pins : (names : List (List ℕ)) (pins : List (PinOf ℕ)) (asked : List Pin) → ReadPins names pins [] asked → ArePins names pins asked
all_pins names pins asked read =
    let are : pins_in names pins ≡ asked = sym (append-nil (pins_in names pins)) ∙ read.are in
    record {
      are = are;
      held = read.held;
      count = sym (length-map pins (λ (pin : PinOf ℕ). (text_of names pin.0, pin.1))) ∙ ap length are;
    }

-- pins whose names are held are those of some words
pub are_their_own : (names : List (List ℕ)) (pins : List (PinOf ℕ)) → AllByRecursion (λ (pin : PinOf ℕ). pin.0 < length names) pins → ArePins names pins (pins_in names pins)
are_their_own names pins held = record { are = refl; held = held; count = sym (length-map pins (λ (pin : PinOf ℕ). (text_of names pin.0, pin.1))) }

-- ---- the names of pins

pub names_of_pins : (names : List (List ℕ)) (pins : List (PinOf ℕ)) (asked : List Pin) (list : List NameId) → ArePins names pins asked → map (λ id. id.0) list ≡ map (λ (pin : PinOf ℕ). pin.0) pins
    → map (λ id. text_of names id.0) list ≡ map (λ (pin : Pin). pin.0) asked
names_of_pins names pins asked list are same =
    sym (map-map (text_of names) (λ (id : NameId). id.0) list) ∙ ap (map (text_of names)) same ∙ map-map (text_of names) (λ (pin : PinOf ℕ). pin.0) pins
    ∙ sym (map-map (λ (pin : Pin). pin.0) (λ (pin : PinOf ℕ). (text_of names pin.0, pin.1)) pins)
    ∙ ap (map (λ (pin : Pin). pin.0)) are.are

held-at : (bound : ℕ) (list : List NameId) (pins : List (PinOf ℕ)) → map (λ id. id.0) list ≡ map (λ (pin : PinOf ℕ). pin.0) pins → AllByRecursion (λ (pin : PinOf ℕ). pin.0 < bound) pins → AllByRecursion (λ (id : NameId). id.0 < bound) list
held-at bound [] pins same held = tt
held-at bound (id ∷ list) [] same held = cc
held-at bound (id ∷ list) (pin ∷ pins) same held =
    let first : pin.0 < bound = held.0 in
    let one : id.0 ≡ pin.0 = cc in
    let rest : map (λ (n : NameId). n.0) list ≡ map (λ (p : PinOf ℕ). p.0) pins = cc in
    (subst (λ n. n < bound) (sym one) first, held-at bound list pins rest held.1)

pub names_held : (names : List (List ℕ)) (pins : List (PinOf ℕ)) (asked : List Pin) (list : List NameId) → ArePins names pins asked → map (λ id. id.0) list ≡ map (λ (pin : PinOf ℕ). pin.0) pins → All (λ id. id.0 < length names) list
names_held names pins asked list are same = All-from_recursion (λ (id : NameId). id.0 < length names) list (held-at (length names) list pins same are.held)

-- features of the names that pins have are those that pins alone give
pub named_by_pins : (names : List (List ℕ)) (pins : List (PinOf ℕ)) (asked : List Pin) (list : List NameId) (f : Features) → AreNames names → ArePins names pins asked → map (λ id. id.0) list ≡ map (λ (pin : PinOf ℕ). pin.0) pins
    → AreNamed list f → AreFeatures f → AreTheirs names (booleans_alone (pinned asked)) f
named_by_pins names pins asked list f are are_pins same named sound =
    let n = named names are (names_held names pins asked list are_pins same) in
    record {
      are = ap (λ ts. booleans_alone (distinct ts)) (sym (names_of_pins names pins asked list are_pins same)) ∙ sym n.0;
      sound = sound;
      held = n.1;
    }
