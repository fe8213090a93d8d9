-- The key under which a register is accessed, as a walk over the object `encodings`. Its five parts are those of the
-- encodings of MRS and MSR (register) (Arm Architecture Reference Manual, DDI 0487).
use Rattle.std.specs.Prelude.{ℕ, List, [], ◌∷◌, ◌++◌, Option, Some, None, option_and_then, codes, bytes_eq, find}
use Rattle.serde_json.specs.Data.{Members, no_members, member}
use Rattle.serde_json.specs.Find.{as_object}
use Rattle.spec_bits.specs.Pattern.{Digit}
use Rattle.spec_walk.specs.Pointer.{under}
use Rattle.spec_walk.specs.Event.{Missing, WrongShape}
use Rattle.spec_walk.specs.Walk.{Walk, Done, ◌>>>◌}
use Rattle.spec_walk.specs.Spot.{Spot, spot, needs, kind}
use Rattle.spec_instructions.specs.Encodeset.{value}
use Rattle.spec_registers.specs.Kind.{value_named}

-- ---- the parts of a key, the highest first

pub data Part : Type 0 where
  Op0 : Part
  Op1 : Part
  CRn : Part
  CRm : Part
  Op2 : Part

abbrev pub parts : List Part
parts = Op0 ∷ Op1 ∷ CRn ∷ CRm ∷ Op2 ∷ []

abbrev pub part_text : Part → List ℕ
part_text Op0 = codes "op0"
part_text Op1 = codes "op1"
part_text CRn = codes "CRn"
part_text CRm = codes "CRm"
part_text Op2 = codes "op2"

-- how many digits it has
abbrev pub part_width : Part → ℕ
part_width Op0 = 2
part_width Op1 = 3
part_width CRn = 4
part_width CRm = 4
part_width Op2 = 3

abbrev pub part_named : List ℕ → Option Part
part_named text = find (λ p. bytes_eq (part_text p) text) parts

-- ---- members

-- the members of an object, by their names, in the order in which they stand: that of the bytes of the names, as serde_json keeps them
abbrev pub each_member : {A : Type 0} → (List ℕ → Spot → Walk A) → List ℕ → List A → Members → Walk (List A)
each_member read at before no_members = Done before
each_member read at before (member key d ms) = read key (spot (under at key) d) >>> λ x. each_member read at (before ++ x ∷ []) ms

-- a member of `encodings` by its name: the digits that it gives, where it is a part of the key
pub record Given : Type 0 where
  pub name : List ℕ
  pub digits : Option (List Digit)

-- a part of the key is digits; of any other member no more is said than that it is a value of some kind
abbrev pub given_by : List ℕ → Spot → Option Part → Walk Given
given_by name here (Some part) = value (part_width part) here >>> λ digits. Done (record { name = name; digits = Some digits })
given_by name here None = kind value_named here >>> λ _. Done (record { name = name; digits = None })

abbrev pub given : List ℕ → Spot → Walk Given
given name here = given_by name here (part_named name)

-- ---- the key

abbrev pub part_given : Part → List Given → Option (List Digit)
part_given part members = option_and_then (λ g. g.digits) (find (λ g. bytes_eq (part_text part) g.name) members)

-- the digits of parts, each of which has to be there
abbrev pub joined : Spot → List Given → List Part → Walk (List Digit)
joined here members [] = Done []
joined here members (part ∷ rest) =
    needs (part_given part members) here (Missing (part_text part)) >>> λ digits.
    joined here members rest >>> λ lower.
    Done (digits ++ lower)

-- all members are read, and only then is a part missed
abbrev pub encodings : Spot → Walk (List Digit)
encodings here =
    needs (as_object here.value) here WrongShape >>> each_member given here.at [] >>> λ members.
    joined here members parts
