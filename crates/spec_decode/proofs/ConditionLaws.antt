-- The conditions along a path, the last node's apart, and paths without conditions.
use Rattle.std.proofs.Common.{◌≡◌, ℕ, List, [], ◌∷◌, ◌++◌, None, refl, sym, ap, ◌∙◌, append_assoc, append-nil}
use Rattle.std.specs.List.{AllByRecursion}
use Rattle.spec_expressions.specs.Truth.{Truth, Yes, No, Open, conjunction}
use Rattle.spec_expressions.specs.Scope.{Configuration}
use Rattle.spec_expressions.specs.Value.{truth}
use Rattle.spec_instructions.specs.Tree.{Own}
use Rattle.spec_instructions.specs.Fields.{fields}
use Rattle.spec_decode.specs.Verdict.{condition_truth, conditions_from}

pub conjunction-assoc : (a b c : Truth) → conjunction (conjunction a b) c ≡ conjunction a (conjunction b c)
conjunction-assoc Yes b c = refl
conjunction-assoc No b c = refl
conjunction-assoc Open Yes c = refl
conjunction-assoc Open No Yes = refl
conjunction-assoc Open No No = refl
conjunction-assoc Open No Open = refl
conjunction-assoc Open Open Yes = refl
conjunction-assoc Open Open No = refl
conjunction-assoc Open Open Open = refl

pub conjunction-yes : (a : Truth) → conjunction a Yes ≡ a
conjunction-yes Yes = refl
conjunction-yes No = refl
conjunction-yes Open = refl

-- the conditions of a path are those above its last node and the last node's
pub conditions-last : (above path : List Own) (own : Own) (g : Configuration) (w : ℕ)
    → conditions_from above (path ++ own ∷ []) g w ≡ conjunction (conditions_from above path g w) (condition_truth (above ++ path) own g w)
conditions-last above [] own g w = conjunction-yes (condition_truth above own g w) ∙ ap (λ l. condition_truth l own g w) (sym (append-nil above))
conditions-last above (first ∷ path) own g w =
    ap (conjunction (condition_truth above first g w)) (conditions-last (above ++ first ∷ []) path own g w)
    ∙ sym (conjunction-assoc (condition_truth above first g w) _ _)
    ∙ ap (λ l. conjunction (conjunction (condition_truth above first g w) (conditions_from (above ++ first ∷ []) path g w)) (condition_truth l own g w)) (append_assoc above (first ∷ []) path)

-- without conditions nothing but the items decides
pub no_conditions : (above path : List Own) (g : Configuration) (w : ℕ) → AllByRecursion (λ own. own.condition ≡ None) path → conditions_from above path g w ≡ Yes
no_conditions above [] g w h = refl
no_conditions above (own ∷ path) g w h =
    ap (λ c. conjunction (truth c g (fields (above ++ own ∷ [])) w) (conditions_from (above ++ own ∷ []) path g w)) h.0
    ∙ no_conditions (above ++ own ∷ []) path g w h.1
