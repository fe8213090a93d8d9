-- The preferred alias is the first that may be, and its path has its leaf's verdict.
use Rattle.std.proofs.Common.{◌≡◌, ◌∙◌, ap, refl, subst, ℕ, zero, suc, ◌+◌, ◌<◌, ◌≤◌, Bool, true, false, ◌&&◌, ◌==◌, cond, List, [], ◌∷◌, ◌++◌, Option, Some, None, arith, ◌⊎◌, inl, inr, append-nil}
use Rattle.std.specs.Prelude.{slice_get}
use Rattle.std.specs.List.{list_all, position_from}
use Rattle.std.proofs.lemmas.Bool.{cases_lt, and_parts, and_from, eqb-true, eq-eqb}
use Rattle.std.proofs.lemmas.Grind.{flat_map-append}
use Rattle.std.proofs.lemmas.List.Folds.{list_all-append}
use Rattle.std.proofs.lemmas.List.Sums.{AllPass-from_list_all, list_all-from_AllPass}
use Rattle.spec_bits.specs.Item.{item_holds}
use Rattle.spec_expressions.specs.Expression.{Expr}
use Rattle.spec_expressions.specs.Truth.{Truth, Yes, No, Open, conjunction}
use Rattle.spec_expressions.specs.Scope.{Configuration}
use Rattle.spec_expressions.specs.Value.{truth}
use Rattle.spec_instructions.specs.Tree.{Own}
use Rattle.spec_instructions.specs.Paths.{path_items}
use Rattle.spec_instructions.specs.Fields.{fields}
use Rattle.spec_instructions.specs.Aliases.{AliasPath, alias_path}
use Rattle.spec_decode.specs.Verdict.{path_holds, condition_truth, conditions_from, by_items, verdict}
use Rattle.spec_decode.specs.Preferred.{is_yes, prefers, is_preferable, preferred, MayBePreferred, IsPreferable, IsFirstPreferable, IsPreferred, PreferredIsExact, PreferredHasLeafVerdict}
use Rattle.spec_decode.proofs.ConditionLaws.{conditions-last, conjunction-yes}

-- ---- the first place in a list that passes a test

module _ {X : Type 0} (p : X → Bool) where
  -- element i passes
  record Passes (xs : List X) (i : ℕ) : Type 0 where
    x : X
    at : slice_get xs i ≡ Some x
    is : p x ≡ true

  -- what is found, where the first element has number k
  abbrev Finds : ℕ → List X → Option ℕ → Type 0
  Finds k xs None = (i : ℕ) → Passes xs i → ⊥
  Finds k xs (Some n) = (i : ℕ) × (n ≡ k + i) × Passes xs i × ((j : ℕ) → j < i → Passes xs j → ⊥)

  first_fails : (x : X) (xs : List X) → p x ≡ false → Passes (x ∷ xs) 0 → ⊥
  first_fails x xs e h = let same : x ≡ h.x = cc h.at in let yes = ap p same ∙ h.is in absurd cc

  later : (x : X) (xs : List X) (j : ℕ) → Passes (x ∷ xs) (suc j) → Passes xs j
  later x xs j h = record { x = h.x; at = h.at; is = h.is }

  none-next : (x : X) (xs : List X) → p x ≡ false → ((i : ℕ) → Passes xs i → ⊥) → (i : ℕ) → Passes (x ∷ xs) i → ⊥
  none-next x xs e none zero h = first_fails x xs e h
  none-next x xs e none (suc i) h = none i (later x xs i h)

  before-next : (x : X) (xs : List X) (i : ℕ) → p x ≡ false → ((j : ℕ) → j < i → Passes xs j → ⊥) → (j : ℕ) → j < suc i → Passes (x ∷ xs) j → ⊥
  before-next x xs i e none zero lt h = first_fails x xs e h
  before-next x xs i e none (suc j) lt h = none j (omega arith) (later x xs j h)

  step : (k : ℕ) (x : X) (xs : List X) (b : Bool) → p x ≡ b → (o : Option ℕ) → Finds (k + 1) xs o → Finds k (x ∷ xs) (cond b (Some k) o)
  step k x xs true e o rest = (0, omega arith, record { x = x; at = refl; is = e }, λ j lt h. absurd (omega arith))
  step k x xs false e None rest = none-next x xs e rest
  step k x xs false e (Some n) rest =
      let there = rest.2 in
      (suc rest.0, omega (arith, rest.1), record { x = there.x; at = there.at; is = there.is }, before-next x xs rest.0 e rest.3)

  finds : (k : ℕ) (xs : List X) → Finds k xs (position_from p k xs)
  finds k [] = λ i h. absurd (let none = h.at in cc)
  finds k (x ∷ xs) = step k x xs (p x) refl (position_from p (k + 1) xs) (finds (k + 1) xs)

-- ---- the test is what may be preferred

yes-is : (t : Truth) → is_yes t ≡ true → t ≡ Yes
yes-is Yes e = refl
yes-is No e = absurd cc
yes-is Open e = absurd cc

module _ (g : Configuration) (w : ℕ) where
  preference : (a : AliasPath) (o : Option Expr) → prefers o g (fields (alias_path a)) w ≡ true → (e : Expr) × (o ≡ Some e) × (truth (Some e) g (fields (alias_path a)) w ≡ Yes)
  preference a None h = absurd cc
  preference a (Some e) h = (e, refl, yes-is (truth (Some e) g (fields (alias_path a)) w) h)

  may : (a : AliasPath) → is_preferable a g w ≡ true → MayBePreferred a g w
  may a h =
      let parts = and_parts (list_all (λ it. item_holds it w) a.own.items) (is_yes (condition_truth a.above a.own g w) && prefers a.own.preferred g (fields (alias_path a)) w) h in
      let truths = and_parts (is_yes (condition_truth a.above a.own g w)) (prefers a.own.preferred g (fields (alias_path a)) w) parts.1 in
      record {
        items = AllPass-from_list_all (λ it. item_holds it w) a.own.items parts.0;
        condition = yes-is (condition_truth a.above a.own g w) truths.0;
        preference = preference a a.own.preferred truths.1;
      }

  may-back : (a : AliasPath) → MayBePreferred a g w → is_preferable a g w ≡ true
  may-back a h =
      let seen = fields (alias_path a) in
      and_from (list_all (λ it. item_holds it w) a.own.items) _ (list_all-from_AllPass (λ it. item_holds it w) a.own.items h.items)
      (and_from (is_yes (condition_truth a.above a.own g w)) _ (ap is_yes h.condition)
      (ap (λ o. prefers o g seen w) h.preference.1 ∙ ap is_yes h.preference.2))

-- ---- the preferred alias

module _ (aliases : List AliasPath) (k : ℕ) (g : Configuration) (w : ℕ) where
  abbrev test : AliasPath → Bool
  test a = a.leaf == k && is_preferable a g w

  preferable : (i : ℕ) → Passes test aliases i → IsPreferable aliases k g w i
  preferable i h =
      let parts = and_parts (h.x.leaf == k) (is_preferable h.x g w) h.is in
      record { alias = h.x; at = h.at; of_leaf = eqb-true h.x.leaf k parts.0; may = may g w h.x parts.1 }

  passes : (i : ℕ) → IsPreferable aliases k g w i → Passes test aliases i
  passes i h = record { x = h.alias; at = h.at; is = and_from (h.alias.leaf == k) (is_preferable h.alias g w) (eq-eqb h.alias.leaf k h.of_leaf) (may-back g w h.alias h.may) }

  one_first : (i j : ℕ) → IsFirstPreferable aliases k g w i → IsFirstPreferable aliases k g w j → i ≡ j
  one_first i j f h = go (cases_lt i j) (cases_lt j i)
    where
      go : (i < j) ⊎ (j ≤ i) → (j < i) ⊎ (i ≤ j) → i ≡ j
      go (inl below) other = absurd (h.first i below f.is)
      go (inr above) (inl below) = absurd (f.first j below h.is)
      go (inr above) (inr below) = omega arith

  first_found : (i n : ℕ) → n ≡ 0 + i → Passes test aliases i → ((j : ℕ) → j < i → Passes test aliases j → ⊥) → IsFirstPreferable aliases k g w n
  first_found i n e here none =
      let same : i ≡ n = omega (arith, e) in
      subst (IsFirstPreferable aliases k g w) same (record { is = preferable i here; first = λ j lt h. none j lt (passes j h) })

  exact : (o : Option ℕ) → preferred aliases k g w ≡ o → Finds test 0 aliases o → IsPreferred aliases k g w
  exact None e none = record {
    some = λ i. (λ h. absurd cc, λ f. absurd (none i (passes i f.is)));
    none = (λ _ i h. none i (passes i h), λ _. e);
  }
  exact (Some n) e found =
      let first = first_found found.0 n found.1 found.2 found.3 in
      record {
        some = λ i. (λ h. let same : n ≡ i = cc in subst (IsFirstPreferable aliases k g w) same first, λ f. e ∙ ap Some (one_first n i first f));
        none = (λ h. absurd cc, λ none. absurd (none n first.is));
      }

pub preferred_is_exact : PreferredIsExact
preferred_is_exact aliases k g w = exact aliases k g w (preferred aliases k g w) refl (finds (test aliases k g w) 0 aliases)

-- ---- its path's verdict

module _ (g : Configuration) (w : ℕ) where
  holds-last : (above : List Own) (own : Own) → path_holds (above ++ own ∷ []) w ≡ (path_holds above w && list_all (λ it. item_holds it w) own.items)
  holds-last above own =
      ap (list_all (λ it. item_holds it w)) (flat_map-append (λ o. o.items) above (own ∷ []) ∙ ap (λ l. path_items above ++ l) (append-nil own.items))
      ∙ list_all-append (λ it. item_holds it w) (path_items above) own.items

  and-true : (b c : Bool) → c ≡ true → (b && c) ≡ b
  and-true true c e = e
  and-true false c e = refl

  -- a path goes on through a node whose items hold and whose condition is Yes
  pub verdict-on : (above : List Own) (own : Own) → list_all (λ it. item_holds it w) own.items ≡ true → condition_truth above own g w ≡ Yes → verdict (above ++ own ∷ []) g w ≡ verdict above g w
  verdict-on above own holds met =
      ap (λ b. by_items b (conditions_from [] (above ++ own ∷ []) g w)) (holds-last above own ∙ and-true (path_holds above w) (list_all (λ it. item_holds it w) own.items) holds)
      ∙ ap (by_items (path_holds above w)) (conditions-last [] above own g w ∙ ap (conjunction (conditions_from [] above g w)) met ∙ conjunction-yes (conditions_from [] above g w))

pub preferred_has_leaf_verdict : PreferredHasLeafVerdict
preferred_has_leaf_verdict aliases k g w i a e at =
    let first = ((preferred_is_exact aliases k g w).some i).0 e in
    let there : slice_get aliases i ≡ Some first.is.alias = first.is.at in
    let same : first.is.alias ≡ a = cc in
    let may = subst (λ b. MayBePreferred b g w) same first.is.may in
    verdict-on g w a.above a.own (list_all-from_AllPass (λ it. item_holds it w) a.own.items may.items) may.condition
