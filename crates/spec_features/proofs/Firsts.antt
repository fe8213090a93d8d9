-- The first configuration that fits and the first solution of its clauses.
use Rattle.std.proofs.Common.{◌≡◌, ◌⊎◌, ℕ, zero, suc, ◌+◌, ◌<◌, ◌≤◌, Bool, true, false, ◌&&◌, List, ◌++◌, take, length, sym, ap, ◌∙◌, subst, ⊎_elim, inl, inr, arith}
use Rattle.std.specs.Prelude.{bytes_eq, slice_index_or}
use Rattle.std.specs.List.{list_all, filter_map, AllByRecursion}
use Rattle.std.proofs.lemmas.Bool.{and_parts, and_from, both_ways}
use Rattle.std.proofs.lemmas.List.{length-append, length-take, get_or-take, get_or_append_left}
use Rattle.std.proofs.lemmas.List.Folds.{list_all-append}
use Rattle.spec_refutation.specs.Literals.{clause_true, satisfies}
use Rattle.spec_refutation.specs.Reading.{IsClause}
use Rattle.spec_refutation.specs.First.{assignment, Before, IsFirst}
use Rattle.spec_refutation.proofs.Agreement.{clauses_wider, Agree}
use Rattle.spec_features.specs.Features.{FeaturesOf}
use Rattle.spec_features.specs.Formula.{holds, Uses}
use Rattle.spec_features.specs.Theory.{TheoryOf, theory, states}
use Rattle.spec_features.specs.Fits.{PinOf, agrees, Fits, IsFirstFitting}
use Rattle.spec_features.specs.Clauses.{pin_clause, constraints_from, variables, clauses, connective_clauses}
use Rattle.spec_features.specs.Laws.{Extension, EachExtends, FirstsAgree, FirstsAreFirst}
use Rattle.spec_features.proofs.Encoding.{Carries, all_both}
use Rattle.spec_features.proofs.Assignments.{assignment_at, more_agree, agree_from, carried, carried_is, carried_agree}
use Rattle.spec_features.proofs.Uses.{theory_uses}
use Rattle.spec_features.proofs.Exact.{all_auxiliaries, last_of_is, AllSay, all_say, from_grows, constraints_bounded, pins_say, pins_bounded}

-- a theory whose constraints speak of its parameters and atoms alone
abbrev pub Closed : {N : Type 0} → TheoryOf N → Type 0
Closed t = AllByRecursion (Uses (states t)) t.constraints

-- each literal of the clauses is one of the variables
pub theory_bounded : {N : Type 0} (same : N → N → Bool) (t : TheoryOf N) → Closed t → (pins : List (PinOf N)) → AllByRecursion (IsClause (variables t)) (clauses same t pins)
theory_bounded same t closed pins =
    let pinned = filter_map (pin_clause same t.names) pins in
    all_both (IsClause (variables t)) (constraints_from (states t) t.constraints) pinned
    (constraints_bounded (states t) t.constraints closed)
    (clauses_wider (states t) (variables t) (from_grows (states t) t.constraints) pinned (pins_bounded same t.names (states t) (omega arith) pins))

-- the states of the auxiliaries of a configuration
abbrev pub extension : {N : Type 0} → TheoryOf N → List Bool → List Bool
extension t g = all_auxiliaries (assignment g) t.constraints

pub extended_length : {N : Type 0} (t : TheoryOf N) (g : List Bool) → length g ≡ states t → length (g ++ extension t g) ≡ variables t
extended_length t g e =
    let p = last_of_is (assignment g) (states t) t.constraints in
    omega (arith, length-append g (extension t g), p, e)

-- all clauses hold where those of the connectives hold and the configuration fits, whatever the assignment beyond it
pub clauses_exact : {N : Type 0} (same : N → N → Bool) (t : TheoryOf N) → Closed t → (pins : List (PinOf N)) (g : List Bool) → length g ≡ states t
    → (v : ℕ → Bool) → Agree (states t) (assignment g) v → satisfies v (connective_clauses t) ≡ true
    → satisfies v (clauses same t pins) ≡ (list_all (holds (assignment g)) t.constraints && list_all (agrees same t.names g) pins)
clauses_exact same t closed pins g e v a s =
    let say : AllSay (assignment g) v (states t) t.constraints = all_say (states t) (assignment g) v a (states t) (omega arith) t.constraints closed in
    list_all-append (clause_true v) (constraints_from (states t) t.constraints) (filter_map (pin_clause same t.names) pins)
    ∙ ap (λ b. b && satisfies v (filter_map (pin_clause same t.names) pins)) (say.exact s)
    ∙ ap (λ b. list_all (holds (assignment g)) t.constraints && b) (pins_say same t.names (states t) (omega arith) g v a pins)

-- what holds of all clauses holds of those of the connectives, and where they hold the configuration fits
pub solved_fits : {N : Type 0} (same : N → N → Bool) (t : TheoryOf N) → Closed t → (pins : List (PinOf N)) (g : List Bool) → length g ≡ states t
    → (v : ℕ → Bool) → Agree (states t) (assignment g) v → satisfies v (clauses same t pins) ≡ true → Fits same t pins g
solved_fits same t closed pins g e v a s =
    let say : AllSay (assignment g) v (states t) t.constraints = all_say (states t) (assignment g) v a (states t) (omega arith) t.constraints closed in
    let p = and_parts (satisfies v (constraints_from (states t) t.constraints)) (satisfies v (filter_map (pin_clause same t.names) pins))
    (sym (list_all-append (clause_true v) (constraints_from (states t) t.constraints) (filter_map (pin_clause same t.names) pins)) ∙ s) in
    let q = and_parts (list_all (holds (assignment g)) t.constraints) (list_all (agrees same t.names g) pins)
    (sym (clauses_exact same t closed pins g e v a (say.among p.0)) ∙ s) in
    record { whole = e; holding = q.0; pinned = q.1 }

pub extended_good : {N : Type 0} (t : TheoryOf N) → Closed t → (g : List Bool) → length g ≡ states t → satisfies (assignment (g ++ extension t g)) (connective_clauses t) ≡ true
extended_good t closed g e =
    let v = assignment (g ++ extension t g) in
    let say : AllSay (assignment g) v (states t) t.constraints =
    all_say (states t) (assignment g) v (more_agree (states t) g (extension t g) (omega (arith, e))) (states t) (omega arith) t.constraints closed in
    let P : ℕ → Type 0 = λ n. Carries v n (extension t g) in
    say.made (subst P e (carried g (extension t g)))

-- a configuration that fits, extended, solves the clauses
pub fitting_solves : {N : Type 0} (same : N → N → Bool) (t : TheoryOf N) → Closed t → (pins : List (PinOf N)) (g : List Bool) → Fits same t pins g
    → satisfies (assignment (g ++ extension t g)) (clauses same t pins) ≡ true
fitting_solves same t closed pins g fits =
    clauses_exact same t closed pins g fits.whole (assignment (g ++ extension t g)) (more_agree (states t) g (extension t g) (omega (arith, fits.whole))) (extended_good t closed g fits.whole)
    ∙ and_from (list_all (holds (assignment g)) t.constraints) (list_all (agrees same t.names g) pins) fits.holding fits.pinned

pub extends : {N : Type 0} (same : N → N → Bool) (f : FeaturesOf N) (g : List Bool) → length g ≡ states (theory same f) → Extension same f g
extends same f g e =
    let t = theory same f in
    let closed = theory_uses same f in
    record {
      auxiliaries = extension t g;
      whole = extended_length t g e;
      good = extended_good t closed g e;
      only = λ others len s.
          let v = assignment (g ++ others) in
          let say : AllSay (assignment g) v (states t) t.constraints =
          all_say (states t) (assignment g) v (more_agree (states t) g others (omega (arith, e))) (states t) (omega arith) t.constraints closed in
          let P : ℕ → Type 0 = λ n. Carries v n (extension t g) in
          carried_is g others (extension t g) (omega (arith, len, extended_length t g e, length-append g others, length-append g (extension t g)))
          (subst P (sym e) (say.forced s));
      exact = λ pins. (
        λ s. solved_fits same t closed pins g e (assignment (g ++ extension t g)) (more_agree (states t) g (extension t g) (omega (arith, e))) s,
        λ fits. fitting_solves same t closed pins g fits,
      );
    }

pub each_extends : EachExtends
each_extends f g e = extends bytes_eq f g e

-- ---- the first

sides : (a b : ℕ) → (a < b) ⊎ (b ≤ a)
sides a zero = inr (omega arith)
sides zero (suc b) = inl (omega arith)
sides (suc a) (suc b) = ⊎_elim (λ l. inl (omega (arith, l))) (λ l. inr (omega (arith, l))) (sides a b)

cut_agrees : (n : ℕ) (all : List Bool) → Agree n (assignment (take n all)) (assignment all)
cut_agrees n all = agree_from n (take n all) all (λ k lt. get_or-take n all k false lt)

cut_length : (n : ℕ) (all : List Bool) → n ≤ length all → length (take n all) ≡ n
cut_length n all le = omega (arith, length-take n all, le)

pub first_configuration : {N : Type 0} (same : N → N → Bool) (t : TheoryOf N) → Closed t → (pins : List (PinOf N)) (all : List Bool)
    → IsFirst (variables t) (clauses same t pins) all → IsFirstFitting same t pins (take (states t) all)
first_configuration same t closed pins all first =
    let n = states t in
    let le : n ≤ length all = omega (arith, from_grows n t.constraints, first.whole) in
    let whole : length (take n all) ≡ n = cut_length n all le in
    record {
      fits = solved_fits same t closed pins (take n all) whole (assignment all) (cut_agrees n all) first.good;
      first = λ others fits before.
          let extended = others ++ extension t others in
          let low : before.at < n = omega (arith, before.within, whole) in
          let front : (k : ℕ) → k < n → slice_index_or extended k false ≡ slice_index_or others k false =
          λ k lt. get_or_append_left others (extension t others) false k (omega (arith, lt, fits.whole)) in
          let cut : (k : ℕ) → k < n → slice_index_or (take n all) k false ≡ slice_index_or all k false = λ k lt. get_or-take n all k false lt in
          first.first extended (extended_length t others fits.whole) (fitting_solves same t closed pins others fits) (record {
            at = before.at;
            within = omega (arith, low, le);
            agree = λ k lt. front k (omega (arith, lt, low)) ∙ before.agree k lt ∙ cut k (omega (arith, lt, low));
            on = front before.at low ∙ before.on;
            off = sym (cut before.at low) ∙ before.off;
          });
    }

pub first_solution : {N : Type 0} (same : N → N → Bool) (t : TheoryOf N) → Closed t → (pins : List (PinOf N)) (g : List Bool)
    → IsFirstFitting same t pins g → IsFirst (variables t) (clauses same t pins) (g ++ extension t g)
first_solution same t closed pins g first = record {
  whole = extended_length t g first.fits.whole;
  good = fitting_solves same t closed pins g first.fits;
  first = λ others len s before. ⊎_elim (λ low. early others len s before low) (λ high. late others len s before high) (sides before.at (states t));
}
  where
    front : (k : ℕ) → k < states t → slice_index_or (g ++ extension t g) k false ≡ slice_index_or g k false
    front k lt = get_or_append_left g (extension t g) false k (omega (arith, lt, first.fits.whole))

    reach : (others : List Bool) → length others ≡ variables t → states t ≤ length others
    reach others len = omega (arith, from_grows (states t) t.constraints, len)

    early : (others : List Bool) → length others ≡ variables t → satisfies (assignment others) (clauses same t pins) ≡ true
        → (b : Before others (g ++ extension t g)) → b.at < states t → ⊥
    early others len s b low =
        let n = states t in
        let cut : (k : ℕ) → k < n → slice_index_or (take n others) k false ≡ slice_index_or others k false = λ k lt. get_or-take n others k false lt in
        first.first (take n others)
        (solved_fits same t closed pins (take n others) (cut_length n others (reach others len)) (assignment others) (cut_agrees n others) s)
        (record {
          at = b.at;
          within = omega (arith, low, first.fits.whole);
          agree = λ k lt. cut k (omega (arith, lt, low)) ∙ b.agree k lt ∙ front k (omega (arith, lt, low));
          on = cut b.at low ∙ b.on;
          off = sym (front b.at low) ∙ b.off;
        })

    late : (others : List Bool) → length others ≡ variables t → satisfies (assignment others) (clauses same t pins) ≡ true
        → (b : Before others (g ++ extension t g)) → states t ≤ b.at → ⊥
    late others len s b high =
        let n = states t in
        let v = assignment others in
        let w = assignment (g ++ extension t g) in
        let a : Agree n (assignment g) v = agree_from n g others (λ k lt. sym (front k lt) ∙ sym (b.agree k (omega (arith, lt, high)))) in
        let say : AllSay (assignment g) v n t.constraints = all_say n (assignment g) v a n (omega arith) t.constraints closed in
        let p = and_parts (satisfies v (constraints_from n t.constraints)) (satisfies v (filter_map (pin_clause same t.names) pins))
        (sym (list_all-append (clause_true v) (constraints_from n t.constraints) (filter_map (pin_clause same t.names) pins)) ∙ s) in
        let P : ℕ → Type 0 = λ m. Carries w m (extension t g) in
        let inside : b.at < n + length (extension t g) = omega (arith, b.within, length-append g (extension t g), first.fits.whole) in
        both_ways (slice_index_or others b.at false)
        (sym (assignment_at others b.at)
        ∙ carried_agree v w n (extension t g) (say.forced (say.among p.0)) (subst P first.fits.whole (carried g (extension t g))) b.at high inside
        ∙ assignment_at (g ++ extension t g) b.at ∙ b.off) b.on

pub firsts_agree : {N : Type 0} (same : N → N → Bool) (f : FeaturesOf N) (pins : List (PinOf N)) → FirstsAgree same f pins
firsts_agree same f pins = record {
  configuration = λ all first. first_configuration same (theory same f) (theory_uses same f) pins all first;
  solution = λ g first. (extension (theory same f) g, first_solution same (theory same f) (theory_uses same f) pins g first);
}

pub firsts_are_first : FirstsAreFirst
firsts_are_first f pins = firsts_agree bytes_eq f pins
