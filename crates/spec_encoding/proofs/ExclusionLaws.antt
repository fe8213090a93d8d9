-- The node that is told is the first that excludes a word, and there is none exactly where the verdict is not No.
use Rattle.std.proofs.Common.{◌≡◌, ◌≢◌, ◌∙◌, sym, ap, refl, subst, ℕ, zero, suc, ◌+◌, ◌<◌, Bool, true, false, not, cond, List, [], ◌∷◌, ◌++◌, length, take, Option, Some, None, arith, ◌⊎◌, inl, inr, append_assoc, append-nil, length-append}
use Rattle.std.specs.Prelude.{slice_get, Any}
use Rattle.std.specs.Option.{option_or}
use Rattle.std.specs.List.{list_all}
use Rattle.std.proofs.lemmas.Bool.{and_parts, and_from, or_cases, or_parts, or_from, or_left, or_right, false≢true, false_from_ne_true, not-true, not-false, not_from_true, not_from_false}
use Rattle.std.proofs.lemmas.List.Folds.{list_all-append}
use Rattle.std.proofs.lemmas.Option.{slice_get_within}
use Rattle.spec_bits.specs.Item.{item_holds}
use Rattle.spec_expressions.specs.Truth.{Truth, Yes, No, Open, conjunction}
use Rattle.spec_expressions.specs.Scope.{Configuration}
use Rattle.spec_instructions.specs.Tree.{Own}
use Rattle.spec_instructions.specs.Paths.{path_items}
use Rattle.spec_decode.specs.Verdict.{path_holds, condition_truth, conditions_from, by_items, verdict}
use Rattle.spec_decode.proofs.VerdictLaws.{right_no, no_rest, some_fails, fails}
use Rattle.spec_encoding.specs.PathLayout.{is_no, node_excludes, excluded_from, excluded_at}
use Rattle.spec_encoding.specs.Encoding.{IsFirstExcluding, ExclusionIsExact}

no-is : (t : Truth) → is_no t ≡ true → t ≡ No
no-is Yes h = absurd (cc)
no-is No h = refl
no-is Open h = absurd (cc)

is-no : (t : Truth) → t ≡ No → is_no t ≡ true
is-no t e = ap is_no e

not-no : (t : Truth) → is_no t ≡ false → t ≢ No
not-no t h = λ e. false≢true (sym h ∙ ap is_no e)

no-not : (t : Truth) → t ≢ No → is_no t ≡ false
no-not Yes h = refl
no-not No h = absurd (h refl)
no-not Open h = refl

-- ---- none

-- all items hold, and the conditions behind `above` are not No
pub record Passes (above path : List Own) (g : Configuration) (w : ℕ) : Type 0 where
  pub items : path_holds path w ≡ true
  pub conditions : conditions_from above path g w ≢ No

pub passes : (above path : List Own) (g : Configuration) (w : ℕ) → excluded_from above path g w ≡ None → Passes above path g w
passes above [] g w h = record { items = refl; conditions = λ e. absurd (cc) }
passes above (own ∷ path) g w h = go (passes (above ++ own ∷ []) path g w) (node_excludes above own g w) refl h
  where
    go : (excluded_from (above ++ own ∷ []) path g w ≡ None → Passes (above ++ own ∷ []) path g w) → (b : Bool) → node_excludes above own g w ≡ b
        → cond b (Some (length above)) (excluded_from (above ++ own ∷ []) path g w) ≡ None → Passes above (own ∷ path) g w
    go further true e n = absurd (cc)
    go further false e n =
        let parts = or_parts (not (list_all (λ it. item_holds it w) own.items)) (is_no (condition_truth above own g w)) e in
        let rest = further n in
        record {
          items = list_all-append (λ it. item_holds it w) own.items (path_items path) ∙ and_from _ _ (not-false _ parts.0) rest.items;
          conditions = λ no. elim (right_no (condition_truth above own g w) (conditions_from (above ++ own ∷ []) path g w) no) as (λ _. ⊥) [ inl here ↦ not-no _ parts.1 here | inr later ↦ rest.conditions later ];
        }

none-from : (above path : List Own) (g : Configuration) (w : ℕ) → Passes above path g w → excluded_from above path g w ≡ None
none-from above [] g w h = refl
none-from above (own ∷ path) g w h =
    let held = and_parts _ _ (sym (list_all-append (λ it. item_holds it w) own.items (path_items path)) ∙ h.items) in
    let here = or_from (not (list_all (λ it. item_holds it w) own.items)) (is_no (condition_truth above own g w)) (not_from_true _ held.0)
    (no-not (condition_truth above own g w) (λ no. h.conditions (ap (λ t. conjunction t (conditions_from (above ++ own ∷ []) path g w)) no))) in
    let rest : Passes (above ++ own ∷ []) path g w = record {
      items = held.1;
      conditions = λ no. h.conditions (ap (conjunction (condition_truth above own g w)) no ∙ no_rest (condition_truth above own g w));
    } in
    ap (λ b. cond b (Some (length above)) (excluded_from (above ++ own ∷ []) path g w)) here ∙ none-from (above ++ own ∷ []) path g w rest

pub verdict-from : (path : List Own) (g : Configuration) (w : ℕ) → Passes [] path g w → verdict path g w ≢ No
verdict-from path g w h = λ no. h.conditions (sym (ap (λ b. by_items b (conditions_from [] path g w)) h.items) ∙ no)

verdict-passes : (path : List Own) (g : Configuration) (w : ℕ) → verdict path g w ≢ No → Passes [] path g w
verdict-passes path g w h = go (path_holds path w) refl
  where
    go : (b : Bool) → path_holds path w ≡ b → Passes [] path g w
    go true e = record { items = e; conditions = λ no. h (ap (λ b. by_items b (conditions_from [] path g w)) e ∙ no) }
    go false e = absurd (h (ap (λ b. by_items b (conditions_from [] path g w)) e))

pub none-verdict : (path : List Own) (g : Configuration) (w : ℕ) → excluded_at path g w ≡ None → verdict path g w ≢ No
none-verdict path g w h = verdict-from path g w (passes [] path g w h)

pub verdict-none : (path : List Own) (g : Configuration) (w : ℕ) → verdict path g w ≢ No → excluded_at path g w ≡ None
verdict-none path g w h = none-from [] path g w (verdict-passes path g w h)

-- ---- the first

abbrev Why : List Own → Own → Configuration → ℕ → Type 0
Why above own g w = Any (λ it. item_holds it w ≡ false) own.items ⊎ (condition_truth above own g w ≡ No)

why-from : (above : List Own) (own : Own) (g : Configuration) (w : ℕ) → node_excludes above own g w ≡ true → Why above own g w
why-from above own g w h = go (or_cases (not (list_all (λ it. item_holds it w) own.items)) (is_no (condition_truth above own g w)) h)
  where
    go : (not (list_all (λ it. item_holds it w) own.items) ≡ true) ⊎ (is_no (condition_truth above own g w) ≡ true) → Why above own g w
    go (inl e) = inl (some_fails own.items w (not-true _ e))
    go (inr e) = inr (no-is _ e)

from-why : (above : List Own) (own : Own) (g : Configuration) (w : ℕ) → Why above own g w → node_excludes above own g w ≡ true
from-why above own g w (inl h) = or_left (not (list_all (λ it. item_holds it w) own.items)) (is_no (condition_truth above own g w)) (not_from_false _ (fails own.items w h))
from-why above own g w (inr h) = or_right (not (list_all (λ it. item_holds it w) own.items)) (is_no (condition_truth above own g w)) (is-no _ h)

record At (above path : List Own) (g : Configuration) (w k : ℕ) : Type 0 where
  own : Own
  at : slice_get path k ≡ Some own
  why : Why (above ++ take k path) own g w

here : (above : List Own) (own : Own) (path : List Own) (g : Configuration) (w : ℕ) → Why above own g w → At above (own ∷ path) g w 0
here above own path g w h = record { own = own; at = refl; why = subst (λ l. Why l own g w) (sym (append-nil above)) h }

here-why : (above : List Own) (own : Own) (path : List Own) (g : Configuration) (w : ℕ) → At above (own ∷ path) g w 0 → Why above own g w
here-why above own path g w h =
    let same : own ≡ h.own = cc h.at in
    subst (λ o. Why above o g w) (sym same) (subst (λ l. Why l h.own g w) (append-nil above) h.why)

later : (above : List Own) (own : Own) (path : List Own) (g : Configuration) (w k : ℕ) → At (above ++ own ∷ []) path g w k → At above (own ∷ path) g w (suc k)
later above own path g w k h = record { own = h.own; at = h.at; why = subst (λ l. Why l h.own g w) (append_assoc above (own ∷ []) (take k path)) h.why }

sooner : (above : List Own) (own : Own) (path : List Own) (g : Configuration) (w k : ℕ) → At above (own ∷ path) g w (suc k) → At (above ++ own ∷ []) path g w k
sooner above own path g w k h = record { own = h.own; at = h.at; why = subst (λ l. Why l h.own g w) (sym (append_assoc above (own ∷ []) (take k path))) h.why }

record First (above path : List Own) (g : Configuration) (w k : ℕ) : Type 0 where
  place : ℕ
  is : k ≡ length above + place
  at : At above path g w place
  first : (j : ℕ) → j < place → At above path g w j → ⊥

one_more : (above : List Own) (own : Own) (n : ℕ) → length (above ++ own ∷ []) + n ≡ length above + suc n
one_more above own n = omega (arith, length-append above (own ∷ []))

some-first : (above path : List Own) (g : Configuration) (w k : ℕ) → excluded_from above path g w ≡ Some k → First above path g w k
some-first above [] g w k h = absurd (cc)
some-first above (own ∷ path) g w k h = go (some-first (above ++ own ∷ []) path g w k) (node_excludes above own g w) refl h
  where
    before : (n : ℕ) → node_excludes above own g w ≡ false → ((j : ℕ) → j < n → At (above ++ own ∷ []) path g w j → ⊥) → (j : ℕ) → j < suc n → At above (own ∷ path) g w j → ⊥
    before n e none zero lt h = false≢true (sym e ∙ from-why above own g w (here-why above own path g w h))
    before n e none (suc j) lt h = none j (omega (arith, lt)) (sooner above own path g w j h)

    go : (excluded_from (above ++ own ∷ []) path g w ≡ Some k → First (above ++ own ∷ []) path g w k) → (b : Bool) → node_excludes above own g w ≡ b
        → cond b (Some (length above)) (excluded_from (above ++ own ∷ []) path g w) ≡ Some k → First above (own ∷ path) g w k
    go further true e s =
        let same : length above ≡ k = cc s in
        record { place = 0; is = omega arith; at = here above own path g w (why-from above own g w e); first = λ j lt h. absurd (omega (arith, lt)) }
    go further false e s =
        let rest = further s in
        record {
          place = suc rest.place;
          is = rest.is ∙ one_more above own rest.place;
          at = later above own path g w rest.place rest.at;
          first = λ j lt h. before rest.place e rest.first j lt h;
        }

first-some : (above path : List Own) (g : Configuration) (w k : ℕ) → At above path g w k → ((j : ℕ) → j < k → At above path g w j → ⊥) → excluded_from above path g w ≡ Some (length above + k)
first-some above [] g w k h first = absurd (cc h.at)
first-some above (own ∷ path) g w zero h first =
    let same : length above ≡ length above + 0 = omega arith in
    ap (λ b. cond b (Some (length above)) (excluded_from (above ++ own ∷ []) path g w)) (from-why above own g w (here-why above own path g w h)) ∙ ap Some same
first-some above (own ∷ path) g w (suc k) h first =
    let quiet = false_from_ne_true (node_excludes above own g w) (λ e. first 0 (omega arith) (here above own path g w (why-from above own g w e))) in
    ap (λ b. cond b (Some (length above)) (excluded_from (above ++ own ∷ []) path g w)) quiet
    ∙ first-some (above ++ own ∷ []) path g w k (sooner above own path g w k h) (λ j lt a. first (suc j) (omega (arith, lt)) (later above own path g w j a))
    ∙ ap Some (one_more above own k)

pub exclusion_is_exact : ExclusionIsExact
exclusion_is_exact path g w = record {
  some = λ k. (to k, from k);
  none = (none-verdict path g w, verdict-none path g w);
}
  where
    to : (k : ℕ) → excluded_at path g w ≡ Some k → IsFirstExcluding path g w k
    to k h =
        let f = some-first [] path g w k h in
        let same : f.place ≡ k = omega (arith, f.is) in
        subst (λ n. IsFirstExcluding path g w n) same (record { excludes = record { own = f.at.own; at = f.at.at; why = f.at.why }; first = λ j lt a. f.first j lt (record { own = a.own; at = a.at; why = a.why }) })

    from : (k : ℕ) → IsFirstExcluding path g w k → excluded_at path g w ≡ Some k
    from k h =
        let same : length {A = Own} [] + k ≡ k = omega arith in
        first-some [] path g w k (record { own = h.excludes.own; at = h.excludes.at; why = h.excludes.why }) (λ j lt a. h.first j lt (record { own = a.own; at = a.at; why = a.why })) ∙ ap Some same

-- ---- the last node apart

or_under : (b : Bool) (k : ℕ) (x y : Option ℕ) → cond b (Some k) (option_or x y) ≡ option_or (cond b (Some k) x) y
or_under true k x y = refl
or_under false k x y = refl

-- the nodes above the last exclude before it does
pub excluded-last : (above path : List Own) (own : Own) (g : Configuration) (w : ℕ)
    → excluded_from above (path ++ own ∷ []) g w ≡ option_or (excluded_from above path g w) (cond (node_excludes (above ++ path) own g w) (Some (length (above ++ path))) None)
excluded-last above [] own g w = ap (λ l. cond (node_excludes l own g w) (Some (length l)) None) (sym (append-nil above))
excluded-last above (first ∷ path) own g w =
    ap (λ o. cond (node_excludes above first g w) (Some (length above)) o) (excluded-last (above ++ first ∷ []) path own g w)
    ∙ ap (λ l. cond (node_excludes above first g w) (Some (length above)) (option_or (excluded_from (above ++ first ∷ []) path g w) (cond (node_excludes l own g w) (Some (length l)) None))) (append_assoc above (first ∷ []) path)
    ∙ or_under (node_excludes above first g w) (length above) (excluded_from (above ++ first ∷ []) path g w) (cond (node_excludes (above ++ first ∷ path) own g w) (Some (length (above ++ first ∷ path))) None)

-- the node that is told is one of the path
pub excluded-within : (path : List Own) (g : Configuration) (w k : ℕ) → excluded_at path g w ≡ Some k → k < length path
excluded-within path g w k h = let first = (exclusion_is_exact path g w).some k in slice_get_within path k (first.0 h).excludes.own (first.0 h).excludes.at
