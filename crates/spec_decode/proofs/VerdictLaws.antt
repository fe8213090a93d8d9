-- What a verdict says: by the items on the path, and by the conditions, each at its own node.
use Rattle.std.proofs.Common.{◌≡◌, ℕ, zero, suc, ◌<◌, List, [], ◌∷◌, ◌++◌, take, length, Bool, true, false, Some, refl, sym, ap, ◌∙◌, subst, arith, append_assoc, append-nil, inl, inr, ◌&&◌}
use Rattle.std.specs.Prelude.{slice_get, Any, ◌⊎◌}
use Rattle.std.specs.List.{list_all}
use Rattle.std.proofs.lemmas.List.Folds.{list_all_at}
use Rattle.std.proofs.lemmas.List.Sums.{AllPass-from_list_all, list_all-from_AllPass}
use Rattle.spec_bits.specs.Item.{Item, item_holds}
use Rattle.spec_expressions.specs.Truth.{Truth, Yes, No, Open, conjunction}
use Rattle.spec_expressions.specs.Scope.{Configuration}
use Rattle.spec_instructions.specs.Tree.{Own}
use Rattle.spec_instructions.specs.Paths.{path_items}
use Rattle.spec_decode.specs.Verdict.{path_holds, condition_truth, conditions_from, by_items, verdict, IsConditionAt, Excludes, Takes, VerdictsAreExact}

-- ---- conditions, behind the nodes above

pub record At (above path : List Own) (g : Configuration) (w k : ℕ) (t : Truth) : Type 0 where
  pub own : Own
  pub at : slice_get path k ≡ Some own
  pub is : condition_truth (above ++ take k path) own g w ≡ t

first_at : (above : List Own) (own : Own) (path : List Own) (g : Configuration) (w : ℕ) (t : Truth) → condition_truth above own g w ≡ t → At above (own ∷ path) g w 0 t
first_at above own path g w t e = record { own = own; at = refl; is = subst (λ l. condition_truth l own g w ≡ t) (sym (append-nil above)) e }

later_at : (above : List Own) (own : Own) (path : List Own) (g : Configuration) (w k : ℕ) (t : Truth) → At (above ++ own ∷ []) path g w k t → At above (own ∷ path) g w (suc k) t
later_at above own path g w k t h = record { own = h.own; at = h.at; is = subst (λ l. condition_truth l h.own g w ≡ t) (append_assoc above (own ∷ []) (take k path)) h.is }

first_is : (above : List Own) (own : Own) (path : List Own) (g : Configuration) (w : ℕ) (t : Truth) → At above (own ∷ path) g w 0 t → condition_truth above own g w ≡ t
first_is above own path g w t h =
    let same : own ≡ h.own = cc h.at in
    subst (λ o. condition_truth above o g w ≡ t) (sym same) (subst (λ l. condition_truth l h.own g w ≡ t) (append-nil above) h.is)

rest_is : (above : List Own) (own : Own) (path : List Own) (g : Configuration) (w k : ℕ) (t : Truth) → At above (own ∷ path) g w (suc k) t → At (above ++ own ∷ []) path g w k t
rest_is above own path g w k t h = record { own = h.own; at = h.at; is = subst (λ l. condition_truth l h.own g w ≡ t) (sym (append_assoc above (own ∷ []) (take k path))) h.is }

-- No where one is No

pub right_no : (t rest : Truth) → conjunction t rest ≡ No → (t ≡ No) ⊎ (rest ≡ No)
right_no Yes rest e = inr e
right_no No rest e = inl refl
right_no Open Yes e = absurd cc
right_no Open No e = inr refl
right_no Open Open e = absurd cc

pub no_rest : (t : Truth) → conjunction t No ≡ No
no_rest Yes = refl
no_rest No = refl
no_rest Open = refl

pub some_no : (above path : List Own) (g : Configuration) (w : ℕ) → conditions_from above path g w ≡ No → (k : ℕ) × At above path g w k No
some_no above [] g w e = absurd cc
some_no above (own ∷ path) g w e = elim (right_no (condition_truth above own g w) (conditions_from (above ++ own ∷ []) path g w) e) [
  | inl here ↦ (0, first_at above own path g w No here)
  | inr later ↦ (let found = some_no (above ++ own ∷ []) path g w later in (suc found.0, later_at above own path g w found.0 No found.1))
]

pub no_from : (above path : List Own) (g : Configuration) (w k : ℕ) → At above path g w k No → conditions_from above path g w ≡ No
no_from above [] g w k h = absurd (cc h.at)
no_from above (own ∷ path) g w zero h = ap (λ t. conjunction t (conditions_from (above ++ own ∷ []) path g w)) (first_is above own path g w No h)
no_from above (own ∷ path) g w (suc k) h =
    ap (conjunction (condition_truth above own g w)) (no_from (above ++ own ∷ []) path g w k (rest_is above own path g w k No h)) ∙ no_rest (condition_truth above own g w)

-- Yes where all are Yes

both_yes : (t rest : Truth) → conjunction t rest ≡ Yes → (t ≡ Yes) × (rest ≡ Yes)
both_yes Yes rest e = (refl, e)
both_yes No rest e = absurd cc
both_yes Open Yes e = absurd cc
both_yes Open No e = absurd cc
both_yes Open Open e = absurd cc

pub all_yes : (above path : List Own) (g : Configuration) (w : ℕ) → conditions_from above path g w ≡ Yes → (k : ℕ) → k < length path → At above path g w k Yes
all_yes above [] g w e k lt = absurd (omega arith)
all_yes above (own ∷ path) g w e zero lt = first_at above own path g w Yes (both_yes _ _ e).0
all_yes above (own ∷ path) g w e (suc k) lt = later_at above own path g w k Yes (all_yes (above ++ own ∷ []) path g w (both_yes _ _ e).1 k (omega arith))

pub yes_from : (above path : List Own) (g : Configuration) (w : ℕ) → ((k : ℕ) → k < length path → At above path g w k Yes) → conditions_from above path g w ≡ Yes
yes_from above [] g w h = refl
yes_from above (own ∷ path) g w h =
    ap (λ t. conjunction t (conditions_from (above ++ own ∷ []) path g w)) (first_is above own path g w Yes (h 0 (omega arith)))
    ∙ yes_from (above ++ own ∷ []) path g w (λ k lt. rest_is above own path g w k Yes (h (suc k) (omega arith)))

-- ---- items

abbrev pub Fails : ℕ → Item → Type 0
Fails w it = item_holds it w ≡ false

here_fails : (it : Item) (items : List Item) (w : ℕ) → Fails w it → Any (Fails w) (it ∷ items)
here_fails it items w e = (0, it, omega arith, refl, e)

later_fails : (it : Item) (items : List Item) (w : ℕ) → Any (Fails w) items → Any (Fails w) (it ∷ items)
later_fails it items w h = (suc h.0, h.1, omega (arith, h.2), h.3, h.4)

pub some_fails : (items : List Item) (w : ℕ) → list_all (λ it. item_holds it w) items ≡ false → Any (Fails w) items
some_fails [] w e = absurd cc
some_fails (it ∷ items) w e = go (item_holds it w) refl (some_fails items w) e
  where
    go : (b : Bool) → item_holds it w ≡ b → (list_all (λ it. item_holds it w) items ≡ false → Any (Fails w) items) → (b && list_all (λ it. item_holds it w) items) ≡ false → Any (Fails w) (it ∷ items)
    go true is rest e = later_fails it items w (rest e)
    go false is rest e = here_fails it items w is

pub fails : (items : List Item) (w : ℕ) → Any (Fails w) items → list_all (λ it. item_holds it w) items ≡ false
fails items w h = list_all_at (λ it. item_holds it w) items h.0 h.1 h.2 (subst (Fails w) (sym h.3) h.4)

-- ---- the verdict

module _ (path : List Own) (g : Configuration) (w : ℕ) where
  at_node : (k : ℕ) (t : Truth) → At [] path g w k t → IsConditionAt path g w k t
  at_node k t h = record { own = h.own; at = h.at; is = h.is }

  node_at : (k : ℕ) (t : Truth) → IsConditionAt path g w k t → At [] path g w k t
  node_at k t h = record { own = h.own; at = h.at; is = h.is }

  excludes : (b : Bool) → path_holds path w ≡ b → by_items b (conditions_from [] path g w) ≡ No → Excludes path g w
  excludes true is e = inr (let found = some_no [] path g w e in (found.0, at_node found.0 No found.1))
  excludes false is e = inl (some_fails (path_items path) w is)

  condition_no : (b : Bool) → conditions_from [] path g w ≡ No → by_items b (conditions_from [] path g w) ≡ No
  condition_no true e = e
  condition_no false e = refl

  excluded : Excludes path g w → verdict path g w ≡ No
  excluded (inl items) = ap (λ b. by_items b (conditions_from [] path g w)) (fails (path_items path) w items)
  excluded (inr condition) = condition_no (path_holds path w) (no_from [] path g w condition.0 (node_at condition.0 No condition.1))

  takes : (b : Bool) → path_holds path w ≡ b → by_items b (conditions_from [] path g w) ≡ Yes → Takes path g w
  takes true is e = record { items = AllPass-from_list_all (λ it. item_holds it w) (path_items path) is; conditions = λ k lt. at_node k Yes (all_yes [] path g w e k lt) }
  takes false is e = absurd cc

  taken : Takes path g w → verdict path g w ≡ Yes
  taken h =
      ap (λ b. by_items b (conditions_from [] path g w)) (list_all-from_AllPass (λ it. item_holds it w) (path_items path) h.items)
      ∙ yes_from [] path g w (λ k lt. node_at k Yes (h.conditions k lt))

pub verdicts_are_exact : VerdictsAreExact
verdicts_are_exact path g w = record {
  no = (excludes path g w (path_holds path w) refl, excluded path g w);
  yes = (takes path g w (path_holds path w) refl, taken path g w);
}
