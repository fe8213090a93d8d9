-- The state of the search after each kind of turn, and at its end.
use Rattle.std.proofs.Common.{◌≡◌, ℕ, zero, suc, ◌+◌, ◌-◌, ◌^◌, ◌<◌, ◌≤◌, ℤ, pos, neg_ℤ, Bool, true, false, cond, not, ◌⊎◌, inl, inr, List, [], ◌∷◌, ◌++◌, map, take, length, Option, Some, None, refl, sym, ap, ◌∙◌, subst, ⊎_elim, append_assoc, arith}
use Rattle.std.specs.Prelude.{slice_get}
use Rattle.std.specs.List.{list_any, list_all, AllByRecursion}
use Rattle.std.specs.Option.{option_map_or, option_and_then}
use Rattle.std.specs.Ordering.{int_eq}
use Rattle.std.proofs.lemmas.Bool.{false≢true}
use Rattle.std.proofs.lemmas.Option.{cond_some}
use Rattle.std.proofs.lemmas.List.{length-append, map-append, take-append-le, get_or_append_left}
use Rattle.std.proofs.Math.Seq.{take-append_seam, get_or-append_seam}
use Rattle.spec_refutation.specs.Literals.{satisfies}
use Rattle.spec_refutation.specs.Derivation.{Step, has, open_literals, the_only, falsified, clause_numbered, the_open, derives}
use Rattle.spec_refutation.specs.Refutation.{clauses_before, step_at, follows, EachFollows}
use Rattle.spec_refutation.specs.Reading.{IsLiteral, IsClause}
use Rattle.spec_refutation.proofs.Sound.{steps_true}
use Rattle.spec_refutation.specs.First.{IsFirst}
use Rattle.feat_solve.specs.Trail.{Entry, literals, valued, Conflicts, weight, IsState, Complete, AreStates}
use Rattle.feat_solve.proofs.Turns.{numbered_more, trail_decided, trail_forced}
use Rattle.feat_solve.proofs.Measure.{pushed, bounded}
use Rattle.feat_solve.proofs.Firsts.{first_is}

abbrev pub known_of : List (List ℤ) → List Step → List (List ℤ)
known_of clauses steps = clauses ++ map (λ s. s.0) steps

pub known_more : (clauses : List (List ℤ)) (steps : List Step) (s : Step)
    → known_of clauses (steps ++ (s ∷ [])) ≡ known_of clauses steps ++ (s.0 ∷ [])
known_more clauses steps s =
    ap (λ t. clauses ++ t) (map-append (λ (s : Step). s.0) steps (s ∷ []))
    ∙ sym (append_assoc clauses (map (λ (s : Step). s.0) steps) (s.0 ∷ []))

pub length_more : (steps : List Step) (s : Step) → length (steps ++ (s ∷ [])) ≡ length steps + 1
length_more steps s = omega (arith, length-append steps (s ∷ []))

-- a step that follows may join
pub follows_more : (clauses : List (List ℤ)) (steps : List Step) (s : Step) → EachFollows clauses steps (length steps)
    → derives (known_of clauses steps) s ≡ true
    → EachFollows clauses (steps ++ (s ∷ [])) (length (steps ++ (s ∷ [])))
follows_more clauses steps s each d i lt = ⊎_elim old new (two i (length steps) (omega (arith, lt, length_more steps s)))
  where
    two : (i n : ℕ) → i < n + 1 → (i < n) ⊎ (i ≡ n)
    two i zero h = inr (omega (arith, h))
    two zero (suc n) h = inl (omega arith)
    two (suc i) (suc n) h = ⊎_elim (λ l. inl (omega (arith, l))) (λ e. inr (omega (arith, e))) (two i n (omega (arith, h)))

    old : i < length steps → follows clauses (steps ++ (s ∷ [])) i ≡ true
    old low =
        ap (λ t. derives (clauses ++ map (λ (s : Step). s.0) t) (step_at (steps ++ (s ∷ [])) i)) (take-append-le i steps (s ∷ []) (omega (arith, low)))
        ∙ ap (derives (clauses_before clauses steps i)) (get_or_append_left steps (s ∷ []) ([], []) i low)
        ∙ each i low

    new : i ≡ length steps → follows clauses (steps ++ (s ∷ [])) i ≡ true
    new e =
        ap (follows clauses (steps ++ (s ∷ []))) e
        ∙ ap (λ t. derives (clauses ++ map (λ (s : Step). s.0) t) (step_at (steps ++ (s ∷ [])) (length steps))) (take-append_seam steps (s ∷ []))
        ∙ ap (derives (known_of clauses steps)) (get_or-append_seam steps s [] ([], []))
        ∙ d

pub all_more : {X : Type 0} (P : X → Type 0) (xs : List X) (x : X) → AllByRecursion P xs → P x
    → AllByRecursion P (xs ++ (x ∷ []))
all_more P [] x a p = (p, tt)
all_more P (y ∷ xs) x a p = (a.0, all_more P xs x a.1 p)

-- the one open literal of a clause is one of its literals, and its negation is not in the set
open_first : (P : ℤ → Type 0) (S c : List ℤ) (l : ℤ) (ls : List ℤ) → open_literals S c ≡ l ∷ ls
    → AllByRecursion P c → P l × (has S (neg_ℤ l) ≡ false)
open_first P S [] l ls e a = absurd cc
open_first P S (m ∷ c) l ls e a = go (has S (neg_ℤ m)) refl e (λ f. open_first P S c l ls f a.1)
  where
    go : (b : Bool) → has S (neg_ℤ m) ≡ b → cond (not b) (m ∷ open_literals S c) (open_literals S c) ≡ l ∷ ls
        → (open_literals S c ≡ l ∷ ls → P l × (has S (neg_ℤ l) ≡ false))
        → P l × (has S (neg_ℤ l) ≡ false)
    go true q e ih = ih e
    go false q e ih = let s : m ≡ l = cc in (subst P s a.0, ap (λ z. has S (neg_ℤ z)) (sym s) ∙ q)

only_first : (ls : List ℤ) (l : ℤ) → the_only ls ≡ Some l → (ms : List ℤ) × (ls ≡ l ∷ ms)
only_first [] l e = absurd cc
only_first (k ∷ ks) l e = (ks, ap (λ z. z ∷ ks) (cond_some (list_all (int_eq k) ks) k l e).1)

got_all : {X : Type 0} (P : X → Type 0) (xs : List X) (k : ℕ) (x : X) → AllByRecursion P xs → slice_get xs k ≡ Some x → P x
got_all P [] k x a e = absurd cc
got_all P (y ∷ xs) zero x a e = let s : y ≡ x = cc in subst P s a.0
got_all P (y ∷ xs) (suc k) x a e = got_all P xs k x a.1 e

numbered_all : (P : List ℤ → Type 0) (known : List (List ℤ)) (h : ℕ) (c : List ℤ) → AllByRecursion P known
    → clause_numbered known h ≡ Some c → P c
numbered_all P known zero c a e = absurd cc
numbered_all P known (suc k) c a e = got_all P known k c a e

known_within : (vars : ℕ) (clauses : List (List ℤ)) (steps : List Step) → AllByRecursion (IsClause vars) clauses
    → AllByRecursion (λ (s : Step). IsClause vars s.0) steps → AllByRecursion (IsClause vars) (known_of clauses steps)
known_within vars [] [] a b = tt
known_within vars [] (s ∷ steps) a b = (b.0, known_within vars [] steps tt b.1)
known_within vars (c ∷ clauses) steps a b = (a.0, known_within vars clauses steps a.1 b)

open_within : (vars : ℕ) (known : List (List ℤ)) (S : List ℤ) (h : ℕ) (l : ℤ) → AllByRecursion (IsClause vars) known
    → the_open known S h ≡ Some l → IsLiteral vars l × (has S (neg_ℤ l) ≡ false)
open_within vars known S h l a e = go (clause_numbered known h) refl e
  where
    go : (o : Option (List ℤ)) → clause_numbered known h ≡ o → option_and_then (λ c. the_only (open_literals S c)) o ≡ Some l
        → IsLiteral vars l × (has S (neg_ℤ l) ≡ false)
    go None is e = absurd cc
    go (Some c) is e =
        let f = only_first (open_literals S c) l e in
        open_first (IsLiteral vars) S c l f.0 f.1 (numbered_all (IsClause vars) known h c a is)

-- a forced literal joins
pub state_forced : (vars : ℕ) (clauses : List (List ℤ)) (steps : List Step) (es : List Entry)
    → IsState vars clauses steps es → AllByRecursion (IsClause vars) clauses → (l : ℤ) (h : ℕ)
    → the_open (known_of clauses steps) (literals es) h ≡ Some l → has (literals es) l ≡ false
    → IsState vars clauses steps ((l, Some h) ∷ es) × (weight vars es < weight vars ((l, Some h) ∷ es))
state_forced vars clauses steps es state within l h e out =
    let known = known_of clauses steps in
    let o = open_within vars known (literals es) h l (known_within vars clauses steps within state.within) e in (
      record {
        trail = trail_forced vars known es l h state.trail o.0 e out o.1;
        follow = state.follow;
        within = state.within;
        few = state.few;
      },
      pushed vars (l, Some h) es,
    )

-- a decision joins
pub state_decided : (vars : ℕ) (clauses : List (List ℤ)) (steps : List Step) (es : List Entry)
    → IsState vars clauses steps es → (x : ℕ) → 0 < x → x ≤ vars → valued es x ≡ false
    → ((y : ℕ) → 0 < y → y < x → valued es y ≡ true)
    → IsState vars clauses steps ((pos x, None) ∷ es) × (weight vars es < weight vars ((pos x, None) ∷ es))
state_decided vars clauses steps es state x some within free least = (
  record {
    trail = trail_decided vars (known_of clauses steps) es x state.trail some within free least;
    follow = state.follow;
    within = state.within;
    few = state.few;
  },
  pushed vars (pos x, None) es,
)

-- at a model
pub state_found : (vars : ℕ) (clauses : List (List ℤ)) (steps : List Step) (es : List Entry)
    → IsState vars clauses steps es → AllByRecursion (IsClause vars) clauses → Complete vars es
    → list_any (falsified (literals es)) clauses ≡ false → (states : List Bool) → AreStates vars es states
    → IsFirst vars clauses states
state_found vars clauses steps es state within all quiet states are =
    first_is vars clauses (known_of clauses steps)
    (λ v s. ap (λ t. satisfies v (clauses ++ map (λ (s : Step). s.0) t)) (sym (take_all steps)) ∙ steps_true v clauses steps s (length steps) (omega arith) state.follow)
    es state.trail states are all within quiet
  where
    take_all : (xs : List Step) → take (length xs) xs ≡ xs
    take_all [] = refl
    take_all (x ∷ xs) = ap (λ t. x ∷ t) (take_all xs)

-- the measure falls
pub measure_falls : (vars : ℕ) (clauses : List (List ℤ)) (steps : List Step) (old new : List Entry)
    → IsState vars clauses steps new → weight vars old < weight vars new
    → (vars + 1) ^ (vars + 1) - weight vars new < (vars + 1) ^ (vars + 1) - weight vars old
measure_falls vars clauses steps old new state grows =
    omega (arith, grows, bounded vars (known_of clauses steps) new state.trail)

-- a clause that is falsified is one of all that are known
pub conflict_known : (clauses : List (List ℤ)) (steps : List Step) (es : List Entry) (h : ℕ)
    → option_map_or (falsified (literals es)) (clause_numbered clauses h) false ≡ true → Conflicts (known_of clauses steps) es h
conflict_known clauses steps es h e = go (clause_numbered clauses h) refl e
  where
    go : (o : Option (List ℤ)) → clause_numbered clauses h ≡ o → option_map_or (falsified (literals es)) o false ≡ true
        → Conflicts (known_of clauses steps) es h
    go None is e = absurd (false≢true e)
    go (Some c) is e = ap (λ o. option_map_or (falsified (literals es)) o false) (numbered_more clauses (map (λ (s : Step). s.0) steps) h c is) ∙ e
