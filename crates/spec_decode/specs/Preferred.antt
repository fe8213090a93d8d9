-- Which alias of a leaf is preferred at a word.
use Rattle.std.specs.Prelude.{◌≡◌, ◌↔◌, ◌<◌, ℕ, ◌==◌, Bool, true, false, ◌&&◌, List, slice_get, Option, Some, None, All}
use Rattle.std.specs.List.{list_all, position_from}
use Rattle.spec_bits.specs.Item.{item_holds}
use Rattle.spec_expressions.specs.Expression.{Expr}
use Rattle.spec_expressions.specs.Truth.{Truth, Yes, No, Open}
use Rattle.spec_expressions.specs.Scope.{Configuration, Field}
use Rattle.spec_expressions.specs.Value.{truth}
use Rattle.spec_instructions.specs.Fields.{fields}
use Rattle.spec_instructions.specs.Aliases.{AliasPath, alias_path}
use Rattle.spec_decode.specs.Verdict.{condition_truth, verdict}

abbrev pub is_yes : Truth → Bool
is_yes Yes = true
is_yes No = false
is_yes Open = false

-- a preference is Yes; where there is none it never is
abbrev pub prefers : Option Expr → Configuration → List Field → ℕ → Bool
prefers None g fields w = false
prefers (Some e) g fields w = is_yes (truth (Some e) g fields w)

-- an alias may be preferred at a word: its items hold, and its condition and its preference are Yes under the fields that are
-- visible at it
abbrev pub is_preferable : AliasPath → Configuration → ℕ → Bool
is_preferable a g w =
    list_all (λ it. item_holds it w) a.own.items
    && (is_yes (condition_truth a.above a.own g w) && prefers a.own.preferred g (fields (alias_path a)) w)

-- the number of the first alias of leaf k that may be preferred
abbrev pub preferred : List AliasPath → ℕ → Configuration → ℕ → Option ℕ
preferred aliases k g w = position_from (λ a. a.leaf == k && is_preferable a g w) 0 aliases

-- ---- what this comes to

pub record MayBePreferred (a : AliasPath) (g : Configuration) (w : ℕ) : Type 0 where
  pub items : All (λ it. item_holds it w ≡ true) a.own.items
  pub condition : condition_truth a.above a.own g w ≡ Yes
  pub preference : (e : Expr) × (a.own.preferred ≡ Some e) × (truth (Some e) g (fields (alias_path a)) w ≡ Yes)

-- alias number i is one of leaf k, and may be preferred
pub record IsPreferable (aliases : List AliasPath) (k : ℕ) (g : Configuration) (w i : ℕ) : Type 0 where
  pub alias : AliasPath
  pub at : slice_get aliases i ≡ Some alias
  pub of_leaf : alias.leaf ≡ k
  pub may : MayBePreferred alias g w

-- so it is, and no alias of the leaf before it
pub record IsFirstPreferable (aliases : List AliasPath) (k : ℕ) (g : Configuration) (w i : ℕ) : Type 0 where
  pub is : IsPreferable aliases k g w i
  pub first : (j : ℕ) → j < i → IsPreferable aliases k g w j → ⊥

-- the preferred alias is the first of the leaf that may be, and there is none exactly where none may be
pub record IsPreferred (aliases : List AliasPath) (k : ℕ) (g : Configuration) (w : ℕ) : Type 0 where
  pub some : (i : ℕ) → (preferred aliases k g w ≡ Some i) ↔ IsFirstPreferable aliases k g w i
  pub none : (preferred aliases k g w ≡ None) ↔ ((i : ℕ) → IsPreferable aliases k g w i → ⊥)

abbrev pub PreferredIsExact : Type 0
PreferredIsExact = (aliases : List AliasPath) (k : ℕ) (g : Configuration) (w : ℕ) → IsPreferred aliases k g w

-- the path of a preferred alias has its leaf's verdict
abbrev pub PreferredHasLeafVerdict : Type 0
PreferredHasLeafVerdict = (aliases : List AliasPath) (k : ℕ) (g : Configuration) (w i : ℕ) (a : AliasPath) → preferred aliases k g w ≡ Some i → slice_get aliases i ≡ Some a → verdict (alias_path a) g w ≡ verdict a.above g w
