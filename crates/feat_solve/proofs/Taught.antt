-- The state of the search after a conflict has taught a step.
use Rattle.std.proofs.Common.{◌≡◌, ℕ, suc, ◌+◌, ◌<◌, ◌≤◌, ℤ, neg_ℤ, Bool, true, false, cond, ◌||◌, List, [], ◌∷◌, ◌++◌, map, length, Some, None, refl, sym, ap, ◌∙◌, subst, ⊎_elim, arith}
use Rattle.std.specs.List.{AllByRecursion}
use Rattle.std.specs.Ordering.{int_eq}
use Rattle.std.proofs.lemmas.Bool.{false≢true, or_cases, or_left, or_right}
use Rattle.std.proofs.lemmas.Bool.Decides.{Decides-int_eq}
use Rattle.std.proofs.lemmas.List.{length-append, length-map}
use Rattle.std.proofs.Math.Seq.{get_or-append_seam}
use Rattle.spec_refutation.specs.Derivation.{Step, has}
use Rattle.spec_refutation.specs.Refutation.{EachFollows}
use Rattle.spec_refutation.specs.Reading.{IsClause}
use Rattle.feat_solve.specs.Trail.{Entry, literals, decisions, below, last_decided, IsTrail, Conflicts, weight, IsState}
use Rattle.feat_solve.specs.Learnt.{causes, is_cut, cuts_below, grounds, learnt, settled}
use Rattle.spec_refutation.specs.First.{IsRefutation}
use Rattle.feat_solve.proofs.Trails.{unvalued_not}
use Rattle.feat_solve.proofs.Turns.{IsLiteral-neg}
use Rattle.feat_solve.proofs.Kept.{known_of, known_more, length_more, follows_more, all_more}
use Rattle.feat_solve.proofs.Teaching.{learnt_derives}
use Rattle.feat_solve.proofs.Jumps.{jump_closed, jump_turned}

needed_decided : (known : List (List ℤ)) (N : List ℤ) (es : List Entry) (x : ℤ)
    → has (grounds known [] N es) x ≡ true → has (decisions es) x ≡ true
needed_decided known N [] x h = h
needed_decided known N ((l, None) ∷ es) x h = go (has N l) h (needed_decided known N es x)
  where
    go : (b : Bool) → has (cond b (l ∷ grounds known [] N es) (grounds known [] N es)) x ≡ true
        → (has (grounds known [] N es) x ≡ true → has (decisions es) x ≡ true) → (int_eq x l || has (decisions es) x) ≡ true
    go true h ih = ⊎_elim (λ q. or_left (int_eq x l) (has (decisions es) x) q) (λ q. or_right (int_eq x l) (has (decisions es) x) (ih q)) (or_cases (int_eq x l) (has (grounds known [] N es) x) h)
    go false h ih = or_right (int_eq x l) (has (decisions es) x) (ih h)
needed_decided known N ((l, Some r) ∷ es) x h = go (has N l) h (needed_decided known (N ++ causes known r) es x) (needed_decided known N es x)
  where
    go : (b : Bool) → has (cond b (grounds known [] (N ++ causes known r) es) (grounds known [] N es)) x ≡ true
        → (has (grounds known [] (N ++ causes known r) es) x ≡ true → has (decisions es) x ≡ true)
        → (has (grounds known [] N es) x ≡ true → has (decisions es) x ≡ true) → has (decisions es) x ≡ true
    go true h more same = more h
    go false h more same = same h

pub grounds_within : (vars : ℕ) (known k : List (List ℤ)) (cs : List Bool) (N : List ℤ) (es : List Entry) → IsTrail vars k es
    → IsClause vars (map neg_ℤ (grounds known cs N es))
grounds_within vars known k cs N [] t = tt
grounds_within vars known k cs N ((l, None) ∷ es) t = go (has N l) (grounds_within vars known k (cuts_below cs) N es t.1)
  where
    go : (b : Bool) → IsClause vars (map neg_ℤ (grounds known (cuts_below cs) N es))
        → IsClause vars (map neg_ℤ (cond b (l ∷ grounds known (cuts_below cs) N es) (grounds known (cuts_below cs) N es)))
    go true ih = (IsLiteral-neg vars l t.0.within, ih)
    go false ih = ih
grounds_within vars known k cs N ((l, Some r) ∷ es) t =
    go (has N l) (is_cut cs) (grounds_within vars known k (cuts_below cs) (N ++ causes known r) es t.1) (grounds_within vars known k (cuts_below cs) N es t.1)
  where
    go : (b c : Bool) → IsClause vars (map neg_ℤ (grounds known (cuts_below cs) (N ++ causes known r) es)) → IsClause vars (map neg_ℤ (grounds known (cuts_below cs) N es))
        → IsClause vars (map neg_ℤ (cond b (cond c (l ∷ grounds known (cuts_below cs) N es) (grounds known (cuts_below cs) (N ++ causes known r) es)) (grounds known (cuts_below cs) N es)))
    go true true p q = (IsLiteral-neg vars l t.0.within, q)
    go true false p q = p
    go false c p q = q

is_empty : (ds : List ℤ) → ((x : ℤ) → has ds x ≡ false) → ds ≡ []
is_empty [] h = refl
is_empty (d ∷ ds) h = absurd (false≢true (sym (h d) ∙ or_left (int_eq d d) (has ds d) ((Decides-int_eq d d).1 refl)))

module _ (vars : ℕ) (clauses : List (List ℤ)) (steps : List Step) (es : List Entry) (h : ℕ)
    (state : IsState vars clauses steps es) (conflict : Conflicts (known_of clauses steps) es h)
    (few : length clauses + length (steps ++ (learnt (known_of clauses steps) [] es h ∷ [])) ≤ 18446744073709551615) where
  each : EachFollows clauses (steps ++ (learnt (known_of clauses steps) [] es h ∷ [])) (length (steps ++ (learnt (known_of clauses steps) [] es h ∷ [])))
  each = follows_more clauses steps (learnt (known_of clauses steps) [] es h) state.follow (learnt_derives vars (known_of clauses steps) [] es state.trail h conflict)

  all_within : AllByRecursion (λ (s : Step). IsClause vars s.0) (steps ++ (learnt (known_of clauses steps) [] es h ∷ []))
  all_within = all_more (λ (s : Step). IsClause vars s.0) steps (learnt (known_of clauses steps) [] es h) state.within
      (grounds_within vars (known_of clauses steps) (known_of clauses steps) [] (causes (known_of clauses steps) h) es state.trail)

  pub taught_closed : last_decided (settled (learnt (known_of clauses steps) [] es h).0 es es) ≡ None
      → IsRefutation vars clauses (steps ++ (learnt (known_of clauses steps) [] es h ∷ []))
  taught_closed none =
      let known = known_of clauses steps in
      let ds = grounds known [] (causes known h) es in
      record {
        refutes = record {
          each = each;
          empty = (
            length steps,
            omega (arith, length_more steps (learnt known [] es h)),
            ap (λ (s : Step). s.0) (get_or-append_seam steps (learnt known [] es h) [] ([], []))
                ∙ ap (map neg_ℤ) (is_empty ds (jump_closed vars known es ds state.trail (needed_decided known (causes known h) es) none)),
          );
        };
        within = all_within;
        few = few;
      }

  pub taught_turned : (d : ℤ) → last_decided (settled (learnt (known_of clauses steps) [] es h).0 es es) ≡ Some d → (n : ℕ)
      → n ≡ length clauses + length (steps ++ (learnt (known_of clauses steps) [] es h ∷ []))
      → let c = (learnt (known_of clauses steps) [] es h).0 in
      let low = below (settled c es es) in
      IsState vars clauses (steps ++ (learnt (known_of clauses steps) [] es h ∷ [])) ((neg_ℤ d, Some n) ∷ settled c low low)
      × (weight vars es < weight vars ((neg_ℤ d, Some n) ∷ settled c low low))
  taught_turned d last n e =
      let known = known_of clauses steps in
      let ds = grounds known [] (causes known h) es in
      let low = below (settled (map neg_ℤ ds) es es) in
      let len : length known ≡ length clauses + length steps = omega (arith, length-append clauses (map (λ (s : Step). s.0) steps), length-map steps (λ (s : Step). s.0)) in
      let num : n ≡ suc (length known) = omega (arith, e, len, length_more steps (learnt known [] es h)) in
      let t = jump_turned vars known es ds state.trail (needed_decided known (causes known h) es) d last n num in
      let P : List (List ℤ) → Type 0 = λ k. IsTrail vars k ((neg_ℤ d, Some n) ∷ settled (map neg_ℤ ds) low low) in (
        record {
          trail = subst P (sym (known_more clauses steps (learnt known [] es h))) t.0;
          follow = each;
          within = all_within;
          few = few;
        },
        t.1,
      )

-- The same of what a turn computes: the step, the steps with it, the trail as its levels are taken back, and the
-- literal that is turned round, with its reason's number.
module _ (vars : ℕ) (clauses : List (List ℤ)) (steps : List Step) (es : List Entry) (h : ℕ)
    (state : IsState vars clauses steps es) (conflict : Conflicts (known_of clauses steps) es h)
    (step : Step) (taught : step ≡ learnt (known_of clauses steps) [] es h)
    (after : List Step) (grown : after ≡ steps ++ (step ∷ [])) (few : length clauses + length after ≤ 18446744073709551615)
    (marks : List ℤ) (marked : marks ≡ step.0) (top : List Entry) (settles : top ≡ settled marks es es) where
  canonical : after ≡ steps ++ (learnt (known_of clauses steps) [] es h ∷ [])
  canonical = grown ∙ ap (λ (x : Step). steps ++ (x ∷ [])) taught

  small : length clauses + length (steps ++ (learnt (known_of clauses steps) [] es h ∷ [])) ≤ 18446744073709551615
  small = let e : length after ≡ length (steps ++ (learnt (known_of clauses steps) [] es h ∷ [])) = ap length canonical in omega (arith, few, e)

  marks_are : marks ≡ (learnt (known_of clauses steps) [] es h).0
  marks_are = marked ∙ ap (λ (x : Step). x.0) taught

  top_is : top ≡ settled (learnt (known_of clauses steps) [] es h).0 es es
  top_is = settles ∙ ap (λ m. settled m es es) marks_are

  pub turn_closes : last_decided top ≡ None → IsRefutation vars clauses after
  turn_closes none =
      let P : List Step → Type 0 = λ x. IsRefutation vars clauses x in
      subst P (sym canonical) (taught_closed vars clauses steps es h state conflict small (ap last_decided (sym top_is) ∙ none))

  pub turn_goes_on : (d : ℤ) → last_decided top ≡ Some d → (low base : List Entry) → low ≡ below top → base ≡ settled marks low low
      → (l : ℤ) → l ≡ neg_ℤ d → (n : ℕ) → n ≡ length clauses + length after
      → (has (literals base) l ≡ false)
      × (IsState vars clauses after ((l, Some n) ∷ base) × (weight vars es < weight vars ((l, Some n) ∷ base)))
  turn_goes_on d last low base low_is base_is l turned n num =
      let c = (learnt (known_of clauses steps) [] es h).0 in
      let under : low ≡ below (settled c es es) = low_is ∙ ap below top_is in
      let base_same : base ≡ settled c (below (settled c es es)) (below (settled c es es)) =
      base_is ∙ ap (λ m. settled m low low) marks_are ∙ ap (λ k. settled c k k) under in
      let t = taught_turned vars clauses steps es h state conflict small d (ap last_decided (sym top_is) ∙ last) n
      (num ∙ ap (λ (x : List Step). length clauses + length x) canonical) in
      let P : List Entry → Type 0 = λ x. IsState vars clauses after ((neg_ℤ d, Some n) ∷ x) × (weight vars es < weight vars ((neg_ℤ d, Some n) ∷ x)) in
      let Q : List Step → Type 0 = λ x. IsState vars clauses x ((neg_ℤ d, Some n) ∷ settled c (below (settled c es es)) (below (settled c es es)))
      × (weight vars es < weight vars ((neg_ℤ d, Some n) ∷ settled c (below (settled c es es)) (below (settled c es es)))) in
      let R : ℤ → Type 0 = λ z. (has (literals base) z ≡ false)
      × (IsState vars clauses after ((z, Some n) ∷ base) × (weight vars es < weight vars ((z, Some n) ∷ base))) in
      let s : IsState vars clauses after ((neg_ℤ d, Some n) ∷ base) × (weight vars es < weight vars ((neg_ℤ d, Some n) ∷ base)) =
      subst P (sym base_same) (subst Q (sym canonical) t) in
      subst R (sym turned) (unvalued_not base (neg_ℤ d) s.0.trail.0.free, s)
