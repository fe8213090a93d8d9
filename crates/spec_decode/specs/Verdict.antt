-- What a path says of a word: whether its patterns and its conditions exclude it.
use Rattle.std.specs.Prelude.{◌≡◌, ◌↔◌, ◌⊎◌, ◌<◌, ℕ, List, [], ◌∷◌, ◌++◌, take, length, Bool, true, false, slice_get, Some, All, Any}
use Rattle.std.specs.List.{list_all}
use Rattle.spec_bits.specs.Item.{item_holds}
use Rattle.spec_expressions.specs.Truth.{Truth, Yes, No, conjunction}
use Rattle.spec_expressions.specs.Scope.{Configuration}
use Rattle.spec_expressions.specs.Value.{truth}
use Rattle.spec_instructions.specs.Tree.{Own}
use Rattle.spec_instructions.specs.Paths.{path_items}
use Rattle.spec_instructions.specs.Fields.{fields}

-- each item of each node on a path holds at a word
abbrev pub path_holds : List Own → ℕ → Bool
path_holds path w = list_all (λ it. item_holds it w) (path_items path)

-- the condition of a node, which stands behind those above it: it sees the fields that are visible at that node, and not those
-- of nodes below it
abbrev pub condition_truth : List Own → Own → Configuration → ℕ → Truth
condition_truth above own g w = truth own.condition g (fields (above ++ own ∷ [])) w

-- the conditions of the nodes of a path, which stand behind those above it, joined by And: No where one is No, Yes where all
-- are Yes, else Open
abbrev pub conditions_from : List Own → List Own → Configuration → ℕ → Truth
conditions_from above [] g w = Yes
conditions_from above (own ∷ path) g w = conjunction (condition_truth above own g w) (conditions_from (above ++ own ∷ []) path g w)

-- the verdict of a path on a word under a configuration: No where an item does not hold, else what its conditions say
abbrev pub by_items : Bool → Truth → Truth
by_items true conditions = conditions
by_items false conditions = No

abbrev pub verdict : List Own → Configuration → ℕ → Truth
verdict path g w = by_items (path_holds path w) (conditions_from [] path g w)

-- ---- what a verdict says

-- node number k of a path has a condition of that truth
pub record IsConditionAt (path : List Own) (g : Configuration) (w k : ℕ) (t : Truth) : Type 0 where
  pub own : Own
  pub at : slice_get path k ≡ Some own
  pub is : condition_truth (take k path) own g w ≡ t

-- a path excludes a word: an item of a node on it does not hold, or the condition of a node on it is No
abbrev pub Excludes : List Own → Configuration → ℕ → Type 0
Excludes path g w = Any (λ it. item_holds it w ≡ false) (path_items path) ⊎ ((k : ℕ) × IsConditionAt path g w k No)

-- a path takes a word: all items hold, and all conditions are Yes
pub record Takes (path : List Own) (g : Configuration) (w : ℕ) : Type 0 where
  pub items : All (λ it. item_holds it w ≡ true) (path_items path)
  pub conditions : (k : ℕ) → k < length path → IsConditionAt path g w k Yes

-- the verdict is No exactly where the path excludes the word, and Yes exactly where it takes it
pub record IsVerdict (path : List Own) (g : Configuration) (w : ℕ) (t : Truth) : Type 0 where
  pub no : (t ≡ No) ↔ Excludes path g w
  pub yes : (t ≡ Yes) ↔ Takes path g w

abbrev pub VerdictsAreExact : Type 0
VerdictsAreExact = (path : List Own) (g : Configuration) (w : ℕ) → IsVerdict path g w (verdict path g w)
