-- Worked values: aliases of two leaves, with preferences that are Yes, Open and No.
use Rattle.std.specs.Prelude.{◌≡◌, ℕ, List, [], ◌∷◌, Some, None, Option, map, false, true, codes, refl}
use Rattle.spec_bits.specs.Pattern.{Digit, Zero, One, Either}
use Rattle.spec_bits.specs.Item.{Item}
use Rattle.spec_expressions.specs.Expression.{Expr, Boolean, Name, Bits, Binary, Eq, Call, IsFeatureImplemented, exprs_of}
use Rattle.spec_expressions.specs.Truth.{Yes}
use Rattle.spec_expressions.specs.Scope.{Configuration, Flag}
use Rattle.spec_instructions.specs.Kind.{Leaf, Alias}
use Rattle.spec_instructions.specs.Tree.{Own, bare}
use Rattle.spec_instructions.specs.Aliases.{AliasPath, alias_path}
use Rattle.spec_decode.specs.Verdict.{verdict}
use Rattle.spec_decode.specs.Preferred.{preferred}

abbrev field : List ℕ → ℕ → List Digit → Item
field name start digits = record { name = Some name; start = start; digits = digits; marks = map (λ _. false) digits }

-- `n` is bits 1 and 0
abbrev leaf : Own
leaf = record (bare Leaf (codes "l")) { items = field (codes "n") 0 (Either ∷ Either ∷ []) ∷ [] }

abbrev alias : List Item → Option Expr → AliasPath
alias items preference = record { leaf = 3; above = leaf ∷ []; own = record (bare Alias (codes "a")) { items = items; preferred = preference } }

abbrev of_other : AliasPath → AliasPath
of_other a = record a { leaf = 4 }

abbrev always : Option Expr
always = Some (Boolean true)

abbrev featured : Expr
featured = Call IsFeatureImplemented (exprs_of (Name (codes "FEAT_A") ∷ []))

-- `n` is that
abbrev n_is : List Digit → Option Expr
n_is digits = Some (Binary Eq (Name (codes "n")) (Bits digits))

abbrev nothing : Configuration
nothing = record { parameters = []; atoms = [] }

abbrev with_feature : Configuration
with_feature = record { parameters = record { name = codes "FEAT_A"; state = Flag true } ∷ []; atoms = [] }

-- without a preference an alias never is, and of two that may be the first is
first_of_two : preferred (alias [] None ∷ alias [] always ∷ alias [] always ∷ []) 3 nothing 0 ≡ Some 1
first_of_two = refl

-- those of other leaves are not, and count for the number
of_its_leaf : preferred (of_other (alias [] always) ∷ alias [] always ∷ []) 3 nothing 0 ≡ Some 1
of_its_leaf = refl

none_of_its_leaf : preferred (alias [] always ∷ []) 4 nothing 0 ≡ None
none_of_its_leaf = refl

-- a preference that is Open is not enough
open_preference : preferred (alias [] (Some featured) ∷ []) 3 nothing 0 ≡ None
open_preference = refl

feature_on : preferred (alias [] (Some featured) ∷ []) 3 with_feature 0 ≡ Some 0
feature_on = refl

-- nor is a condition
open_condition : preferred (record { leaf = 3; above = leaf ∷ []; own = record (bare Alias (codes "a")) { condition = Some featured; preferred = always } } ∷ []) 3 nothing 0 ≡ None
open_condition = refl

-- items of an alias hold or not, also where it prefers the word
items_fail : preferred (alias (field (codes "n") 0 (One ∷ Zero ∷ []) ∷ []) always ∷ []) 3 nothing 1 ≡ None
items_fail = refl

-- a preference by the field that the alias fixes
by_fixed_field : preferred (alias (field (codes "n") 0 (One ∷ Zero ∷ []) ∷ []) (n_is (One ∷ Zero ∷ [])) ∷ []) 3 nothing 2 ≡ Some 0
by_fixed_field = refl

-- an alias that gives the leaf's name `n` to another bit sees that bit
by_own_field : preferred (alias (field (codes "n") 4 (Either ∷ []) ∷ []) (n_is (One ∷ [])) ∷ []) 3 nothing 0x10 ≡ Some 0
by_own_field = refl

not_by_leaf_field : preferred (alias (field (codes "n") 4 (Either ∷ []) ∷ []) (n_is (One ∷ [])) ∷ []) 3 nothing 1 ≡ None
not_by_leaf_field = refl

-- an alias that may be preferred at a word has its leaf's verdict there
with_leaf_verdict : verdict (alias_path (alias (field (codes "n") 0 (One ∷ Zero ∷ []) ∷ []) always)) nothing 2 ≡ Yes
with_leaf_verdict = refl
