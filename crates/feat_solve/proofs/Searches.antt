-- What a turn makes of the search, from what it makes of its steps and its trail.
use Rattle.std.proofs.Common.{◌≡◌, refl, sym, ap, ◌∙◌, subst, ℕ, ◌+◌, ◌-◌, ◌^◌, ◌<◌, ◌≤◌, ℤ, neg_ℤ, false, Bool, List, [], ◌∷◌, ◌++◌, length, Option, Some, None, Result, Ok, Err, arith}
use Rattle.std.specs.Prelude.{IfOk, OnOk}
use Rattle.std.specs.List.{AllByRecursion}
use Rattle.spec_refutation.specs.Derivation.{Step, has}
use Rattle.spec_refutation.specs.Reading.{IsClause}
use Rattle.spec_refutation.specs.First.{IsRefutation}
use Rattle.feat_solve.specs.declared.search.Search.{Search}
use Rattle.feat_solve.specs.Trail.{Entry, literals, below, last_decided, Conflicts, IsState, weight}
use Rattle.feat_solve.specs.Learnt.{learnt, settled}
use Rattle.feat_solve.specs.Turns.{known, Keeps, HasFewLines, IsReady}
use Rattle.feat_solve.proofs.Kept.{known_of, measure_falls}
use Rattle.feat_solve.proofs.Lemmas.{lemma_state, lemma_conflict}
use Rattle.feat_solve.proofs.Taught.{turn_closes, turn_goes_on}

both : {A B : Type 0} (P : A → B → Type 0) {a a' : A} {b b' : B} → a ≡ a' → b ≡ b' → P a b → P a' b'
both P {a} {a'} {b} {b'} p q x = subst (λ y. P a' y) q (subst (λ y. P y b) p x)

pub keeps_keeps : (old mid new : Search) → Keeps old mid → Keeps mid new → Keeps old new
keeps_keeps old mid new first then = record { vars_are = then.vars_are ∙ first.vars_are; clauses_are = then.clauses_are ∙ first.clauses_are }

pub few_of : (s : Search) → IsReady s → HasFewLines s
few_of s ready = record { few_clauses = ready.few; few = ready.state.few }

pub ready_kept : (old new : Search) → IsReady old → Keeps old new → IsState old.vars old.clauses.now new.steps.items new.trail → IsReady new
ready_kept old new ready keeps state = record {
  vars = subst (λ n. n ≤ 2147483647) (sym keeps.vars_are) ready.vars;
  within = both (λ n cs. AllByRecursion (IsClause n) cs) (sym keeps.vars_are) (sym keeps.clauses_are) ready.within;
  few = subst (λ cs. length cs < 2147483648) (sym keeps.clauses_are) ready.few;
  state = both (λ n cs. IsState n cs new.steps.items new.trail) (sym keeps.vars_are) (sym keeps.clauses_are) state;
}

few_kept : (old new : Search) → Keeps old new → HasFewLines new → length old.clauses.now + length new.steps.items ≤ 18446744073709551615
few_kept old new keeps few = let e = ap length keeps.clauses_are in omega (arith, few.few, e)

-- ---- a step that joins while the trail stays

module _ (old new : Search) (number : ℕ) (cuts : List Bool) (ready : IsReady old) (conflict : Conflicts (known old) old.trail number)
    (step : Step) (taught : step ≡ learnt (known old) cuts old.trail number) (keeps : Keeps old new) (trail : new.trail ≡ old.trail) (few : HasFewLines new)
    (added : new.steps.items ≡ old.steps.items ++ step ∷ []) where
  pub joined_ready : IsReady new
  joined_ready =
      ready_kept old new ready keeps (subst (IsState old.vars old.clauses.now new.steps.items) (sym trail)
      (lemma_state old.vars old.clauses.now old.steps.items old.trail number cuts ready.state conflict step taught new.steps.items added (few_kept old new keeps few)))

  pub joined_conflict : (n : ℕ) → n ≡ length new.clauses.now + length new.steps.items → Conflicts (known new) new.trail n
  joined_conflict n is =
      both (λ cs es. Conflicts (known_of cs new.steps.items) es n) (sym keeps.clauses_are) (sym trail)
      (lemma_conflict old.vars old.clauses.now old.steps.items old.trail number cuts ready.state conflict step taught new.steps.items added (few_kept old new keeps few) n
      (is ∙ ap (λ cs. length cs + length new.steps.items) keeps.clauses_are))

pub on_ok : {A E P Q : Type 0} (r : Result A E) → OnOk r P → (P → Q) → OnOk r Q
on_ok (Ok x) p f = f p
on_ok (Err e) p f = tt

pub if_ok : {A E P : Type 0} {Q R : A → Type 0} (r : Result A E) → OnOk r P → IfOk r Q → ((x : A) → P → Q x → R x) → IfOk r R
if_ok (Ok x) p q f = f x p q
if_ok (Err e) p q f = tt

-- ---- a conflict, by which a decision is turned round

module _ (old mid : Search) (number : ℕ) (ready : IsReady old) (conflict : Conflicts (known old) old.trail number)
    (keeps : Keeps old mid) (trail : mid.trail ≡ old.trail) (few : HasFewLines mid)
    (added : mid.steps.items ≡ old.steps.items ++ learnt (known old) [] old.trail number ∷ []) (marked : mid.marks ≡ (learnt (known old) [] old.trail number).0)
    (top : List Entry) (settles : top ≡ settled mid.marks mid.trail mid.trail) where
  settles_old : top ≡ settled mid.marks old.trail old.trail
  settles_old = settles ∙ ap (λ es. settled mid.marks es es) trail

  pub closes : last_decided top ≡ None → IsRefutation mid.vars mid.clauses.now mid.steps.items
  closes none =
      both (λ n cs. IsRefutation n cs mid.steps.items) (sym keeps.vars_are) (sym keeps.clauses_are)
      (turn_closes old.vars old.clauses.now old.steps.items old.trail number ready.state conflict (learnt (known old) [] old.trail number) refl mid.steps.items added (few_kept old mid keeps few)
      mid.marks marked top settles_old none)

  module _ (d : ℤ) (last : last_decided top ≡ Some d) (low : List Entry) (low_is : low ≡ below top) where
    abbrev pub next : ℕ
    next = length mid.clauses.now + length mid.steps.items

    turned : (has (literals (settled mid.marks low low)) (neg_ℤ d) ≡ false)
        × (IsState old.vars old.clauses.now mid.steps.items ((neg_ℤ d, Some next) ∷ settled mid.marks low low) × (weight old.vars old.trail < weight old.vars ((neg_ℤ d, Some next) ∷ settled mid.marks low low)))
    turned =
        turn_goes_on old.vars old.clauses.now old.steps.items old.trail number ready.state conflict (learnt (known old) [] old.trail number) refl mid.steps.items added (few_kept old mid keeps few)
        mid.marks marked top settles_old d last low (settled mid.marks low low) low_is refl (neg_ℤ d) refl next (ap (λ cs. length cs + length mid.steps.items) keeps.clauses_are)

    pub turned_free : has (literals (settled mid.marks low low)) (neg_ℤ d) ≡ false
    turned_free = turned.0

    pub goes_on : (new : Search) → Keeps mid new → new.steps ≡ mid.steps → new.trail ≡ (neg_ℤ d, Some next) ∷ settled mid.marks low low
        → IsReady new × (weight old.vars old.trail < weight old.vars new.trail)
    goes_on new kept steps is =
        let e : new.steps.items ≡ mid.steps.items = ap (λ s. s.items) steps in
        let P : List Step → List Entry → Type 0 = λ ss es. IsState old.vars old.clauses.now ss es × (weight old.vars old.trail < weight old.vars es) in
        let h = both P (sym e) (sym is) turned.1 in
        (ready_kept old new ready (keeps_keeps old mid new keeps kept) h.0, h.1)

-- ---- the turns end

pub search_falls : (first old new : Search) → Keeps first old → Keeps old new → IsReady new → weight old.vars old.trail < weight old.vars new.trail
    → (first.vars + 1) ^ (first.vars + 1) - weight first.vars new.trail < (first.vars + 1) ^ (first.vars + 1) - weight first.vars old.trail
search_falls first old new keeps kept ready grows =
    measure_falls first.vars new.clauses.now new.steps.items old.trail new.trail
    (subst (λ n. IsState n new.clauses.now new.steps.items new.trail) (kept.vars_are ∙ keeps.vars_are) ready.state)
    (subst (λ n. weight n old.trail < weight n new.trail) keeps.vars_are grows)
