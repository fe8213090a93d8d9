-- Worked values: a group with a condition on its field, and two leaves, of which one gives the field's name to other bits.
use Rattle.std.specs.Prelude.{◌≡◌, ℕ, List, [], ◌∷◌, Some, map, false, true, codes, refl}
use Rattle.spec_bits.specs.Pattern.{Digit, One, Either}
use Rattle.spec_bits.specs.Item.{Item}
use Rattle.spec_expressions.specs.Expression.{Name, Bits, Binary, Eq, Call, IsFeatureImplemented, exprs_of}
use Rattle.spec_expressions.specs.Truth.{Yes, No, Open}
use Rattle.spec_expressions.specs.Scope.{Configuration, Flag}
use Rattle.spec_instructions.specs.Kind.{Group, Leaf}
use Rattle.spec_instructions.specs.Tree.{Own, bare}
use Rattle.spec_decode.specs.Verdict.{verdict}
use Rattle.spec_decode.specs.Found.{found}

abbrev field : List ℕ → ℕ → List Digit → Item
field name start digits = record { name = Some name; start = start; digits = digits; marks = map (λ _. false) digits }

-- the field `op` is bit 31, and the group is there where it is 1
abbrev group : Own
group = record (bare Group (codes "g")) { items = field (codes "op") 31 (Either ∷ []) ∷ []; condition = Some (Binary Eq (Name (codes "op")) (Bits (One ∷ []))) }

-- `op` is bit 0 here
abbrev other : Own
other = record (bare Leaf (codes "other")) { items = field (codes "op") 0 (Either ∷ []) ∷ [] }

-- there with the feature alone
abbrev featured : Own
featured = record (bare Leaf (codes "featured")) { condition = Some (Call IsFeatureImplemented (exprs_of (Name (codes "FEAT_A") ∷ []))) }

abbrev paths : List (List Own)
paths = (group ∷ other ∷ []) ∷ (group ∷ featured ∷ []) ∷ []

abbrev nothing : Configuration
nothing = record { parameters = []; atoms = [] }

abbrev with_feature : Configuration
with_feature = record { parameters = record { name = codes "FEAT_A"; state = Flag true } ∷ []; atoms = [] }

-- the group's condition sees the group's field, and not the leaf's of the same name
own_fields : verdict (group ∷ other ∷ []) nothing 0x8000_0000 ≡ Yes
own_fields = refl

not_those_below : verdict (group ∷ other ∷ []) nothing 1 ≡ No
not_those_below = refl

-- a condition that is Open does not exclude
open_stays : found paths nothing 0x8000_0000 ≡ record { leaf = 0; verdict = Yes } ∷ record { leaf = 1; verdict = Open } ∷ []
open_stays = refl

both_found : found paths with_feature 0x8000_0000 ≡ record { leaf = 0; verdict = Yes } ∷ record { leaf = 1; verdict = Yes } ∷ []
both_found = refl

none_found : found paths with_feature 0 ≡ []
none_found = refl
