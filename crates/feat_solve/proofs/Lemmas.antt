-- A step that a conflict teaches may join while the trail stays: it is falsified too. And the walk down the trail
-- by which it is found.
use Rattle.std.proofs.Common.{◌≡◌, ℕ, suc, ◌+◌, ◌<◌, ◌≤◌, ℤ, neg_ℤ, Bool, true, false, ◌&&◌, List, [], ◌∷◌, ◌++◌, map, reverse, take, length, get_or, refl, sym, ap, ◌∙◌, subst, arith}
use Rattle.std.specs.Option.{option_map_or}
use Rattle.std.specs.Ordering.{int_eq}
use Rattle.std.proofs.lemmas.Bool.{or_left, or_right}
use Rattle.std.proofs.lemmas.Bool.Decides.{Decides-int_eq}
use Rattle.std.proofs.lemmas.List.{length-append, length-map, append-nil}
use Rattle.std.proofs.Math.Seq.{take-suc}
use Rattle.spec_refutation.specs.Derivation.{Step, has, falsified, clause_numbered}
use Rattle.spec_refutation.specs.Reading.{IsClause}
use Rattle.spec_refutation.proofs.Sound.{neg-neg}
use Rattle.feat_solve.specs.Trail.{Entry, literals, IsTrail, Conflicts, IsState}
use Rattle.feat_solve.specs.Learnt.{causes, is_cut, cuts_below, grounds, chain, learnt}
use Rattle.feat_solve.proofs.Turns.{slice_get-seam, trail_more}
use Rattle.feat_solve.proofs.Kept.{known_of, known_more, length_more, follows_more, all_more}
use Rattle.feat_solve.proofs.Tabled.{reverse_snoc}
use Rattle.feat_solve.proofs.Teaching.{learnt_derives, grounds_in}
use Rattle.feat_solve.proofs.Taught.{grounds_within}

falsified_negs : (S gs : List ℤ) → ((x : ℤ) → has gs x ≡ true → has S x ≡ true) → falsified S (map neg_ℤ gs) ≡ true
falsified_negs S [] within = refl
falsified_negs S (g ∷ gs) within =
    ap (λ b. b && falsified S (map neg_ℤ gs)) (ap (has S) (neg-neg g) ∙ within g (or_left (int_eq g g) (has gs g) ((Decides-int_eq g g).1 refl)))
    ∙ falsified_negs S gs (λ x h. within x (or_right (int_eq x g) (has gs x) h))

module _ (vars : ℕ) (clauses : List (List ℤ)) (steps : List Step) (es : List Entry) (h : ℕ) (cs : List Bool)
    (state : IsState vars clauses steps es) (conflict : Conflicts (known_of clauses steps) es h)
    (step : Step) (taught : step ≡ learnt (known_of clauses steps) cs es h)
    (after : List Step) (grown : after ≡ steps ++ (step ∷ [])) (few : length clauses + length after ≤ 18446744073709551615) where
  canonical : after ≡ steps ++ (learnt (known_of clauses steps) cs es h ∷ [])
  canonical = grown ∙ ap (λ (x : Step). steps ++ (x ∷ [])) taught

  pub lemma_state : IsState vars clauses after es
  lemma_state =
      let known = known_of clauses steps in
      let s : Step = learnt known cs es h in
      let P : List Step → Type 0 = λ x. IsState vars clauses x es in
      let Q : List (List ℤ) → Type 0 = λ k. IsTrail vars k es in
      let len : length after ≡ length (steps ++ (s ∷ [])) = ap length canonical in
      subst P (sym canonical) (record {
        trail = subst Q (sym (known_more clauses steps s)) (trail_more vars known (s.0 ∷ []) es state.trail);
        follow = follows_more clauses steps s state.follow (learnt_derives vars known cs es state.trail h conflict);
        within = all_more (λ (s : Step). IsClause vars s.0) steps s state.within (grounds_within vars known known cs (causes known h) es state.trail);
        few = omega (arith, few, len);
      })

  pub lemma_conflict : (n : ℕ) → n ≡ length clauses + length after → Conflicts (known_of clauses after) es n
  lemma_conflict n num =
      let known = known_of clauses steps in
      let s : Step = learnt known cs es h in
      let len : length known ≡ length clauses + length steps = omega (arith, length-append clauses (map (λ (s : Step). s.0) steps), length-map steps (λ (s : Step). s.0)) in
      let size : length after ≡ length (steps ++ (s ∷ [])) = ap length canonical in
      let at : n ≡ suc (length known) = omega (arith, num, len, size, length_more steps s) in
      ap (λ k. option_map_or (falsified (literals es)) (clause_numbered k n) false) (ap (known_of clauses) canonical ∙ known_more clauses steps s)
      ∙ ap (λ k. option_map_or (falsified (literals es)) (clause_numbered (known ++ (s.0 ∷ [])) k) false) at
      ∙ ap (λ o. option_map_or (falsified (literals es)) o false) (slice_get-seam known s.0)
      ∙ falsified_negs (literals es) (grounds known cs (causes known h) es) (grounds_in known cs (causes known h) es)

-- Of a walk down the trail: with any cuts from here on, what is found so far is a beginning of what is taught.
pub record Walked (known : List (List ℤ)) (h : ℕ) (all rest : List Entry) (needed clause : List ℤ) (hints : List ℕ) (cuts : List Bool) : Type 0 where
  pub from : List Bool
  pub grounded : clause ++ map neg_ℤ (grounds known cuts needed rest) ≡ map neg_ℤ (grounds known from (causes known h) all)
  pub chained : hints ++ chain known cuts needed rest ≡ h ∷ chain known from (causes known h) all

pub walk_begins : (known : List (List ℤ)) (h : ℕ) (es rest : List Entry) (needed clause : List ℤ) (hints : List ℕ)
    → rest ≡ es → needed ≡ causes known h → clause ≡ [] → hints ≡ h ∷ [] → (cuts : List Bool) → Walked known h es rest needed clause hints cuts
walk_begins known h es rest needed clause hints r n c s cuts = record {
  from = cuts;
  grounded = ap (λ x. x ++ map neg_ℤ (grounds known cuts needed rest)) c ∙ ap (λ x. map neg_ℤ (grounds known cuts x rest)) n
      ∙ ap (λ x. map neg_ℤ (grounds known cuts (causes known h) x)) r;
  chained = ap (λ x. x ++ chain known cuts needed rest) s ∙ ap (λ x. h ∷ chain known cuts x rest) n
      ∙ ap (λ x. h ∷ chain known cuts (causes known h) x) r;
}

pub whole : (xs : List Entry) → take (length xs) xs ≡ xs
whole [] = refl
whole (x ∷ xs) = ap (λ (t : List Entry). x ∷ t) (whole xs)

-- the entries below, newest first
pub taken : (entries : List Entry) (n k : ℕ) (e : Entry) → n ≡ suc k → k < length entries → e ≡ get_or entries k e
    → reverse (take n entries) ≡ e ∷ reverse (take k entries)
taken entries n k e is lt at =
    ap (λ m. reverse (take m entries)) is ∙ ap reverse (take-suc entries k e lt) ∙ reverse_snoc (take k entries) (get_or entries k e)
    ∙ ap (λ (x : Entry). x ∷ reverse (take k entries)) (sym at)

pub walk_goes_on : (known : List (List ℤ)) (h : ℕ) (all before rest : List Entry) (e : Entry) (b : Bool) (old new clause clause' : List ℤ) (hints hints' : List ℕ)
    → before ≡ e ∷ rest → ((cuts : List Bool) → Walked known h all before old clause hints cuts)
    → ((cuts : List Bool) (es : List Entry) → is_cut cuts ≡ b → clause' ++ map neg_ℤ (grounds known (cuts_below cuts) new es)
    ≡ clause ++ map neg_ℤ (grounds known cuts old (e ∷ es)))
    → ((cuts : List Bool) (es : List Entry) → is_cut cuts ≡ b → hints' ++ chain known (cuts_below cuts) new es
    ≡ hints ++ chain known cuts old (e ∷ es))
    → (cuts : List Bool) → Walked known h all rest new clause' hints' cuts
walk_goes_on known h all before rest e b old new clause clause' hints hints' is w c r cuts =
    let up = w (b ∷ cuts) in
    record {
      from = up.from;
      grounded = c (b ∷ cuts) rest refl ∙ ap (λ x. clause ++ map neg_ℤ (grounds known (b ∷ cuts) old x)) (sym is) ∙ up.grounded;
      chained = r (b ∷ cuts) rest refl ∙ ap (λ x. hints ++ chain known (b ∷ cuts) old x) (sym is) ∙ up.chained;
    }

pub walk_ends : (known : List (List ℤ)) (h : ℕ) (es rest : List Entry) (needed clause : List ℤ) (hints back : List ℕ) → rest ≡ [] → back ≡ reverse hints
    → ((cuts : List Bool) → Walked known h es rest needed clause hints cuts)
    → (cuts : List Bool) × ((clause, back) ≡ learnt known cuts es h)
walk_ends known h es rest needed clause hints back is turned w =
    let last = w [] in
    let c : clause ≡ map neg_ℤ (grounds known last.from (causes known h) es) =
    sym (append-nil clause) ∙ ap (λ x. clause ++ map neg_ℤ (grounds known [] needed x)) (sym is) ∙ last.grounded in
    let r : hints ≡ h ∷ chain known last.from (causes known h) es =
    sym (append-nil hints) ∙ ap (λ x. hints ++ chain known [] needed x) (sym is) ∙ last.chained in (
      last.from,
      ap (λ x. (clause, x)) turned ∙ ap (λ x. (x, reverse hints)) c ∙ ap (λ x. (map neg_ℤ (grounds known last.from (causes known h) es), reverse x)) r,
    )
