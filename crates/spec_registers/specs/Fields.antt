-- A fieldset as a walk: its width, when it is the register's, and its fields.
use Rattle.std.specs.Prelude.{ℕ, ◌+◌, ◌^◌, List, [], ◌∷◌, length, flat_map, Bool, ◌&&◌, nat_le, nat_lt, Option, Some, None, codes}
use Rattle.spec_walk.specs.Event.{WrongShape, BadRange, BadName, TooMany}
use Rattle.spec_walk.specs.Walk.{Walk, Done, ◌>>>◌}
use Rattle.spec_walk.specs.Spot.{Spot, unless, an_object, elements, text, number_below, needed, optional, kind, named, each}
use Rattle.spec_expressions.specs.Expression.{Expr}
use Rattle.spec_expressions.specs.Reading.{expression}
use Rattle.spec_instructions.specs.Encodeset.{Range}
use Rattle.spec_registers.specs.Name.{is_wide_name}
use Rattle.spec_registers.specs.Limits.{fieldset_limit, width_limit}
use Rattle.spec_registers.specs.Kind as kind_of
use Rattle.spec_registers.specs.Kind.{FieldKind, ConditionalField, OtherField, field_named}
use Rattle.spec_registers.specs.Registers.{Field, Fieldset}

-- ---- names and conditions

-- the text at a place as a wide name, which takes its number at the object that has it as a member
abbrev pub wide_name : Spot → Spot → Walk (List ℕ)
wide_name owner place =
    text place >>> λ s.
    unless (is_wide_name s) place BadName >>> λ _.
    named owner s

-- the member `condition`
abbrev pub condition : Spot → Walk (Option Expr)
condition here = optional (codes "condition") expression here

-- ---- ranges

-- a range is not empty and ends within the fieldset, which has so many bits
abbrev pub is_range : ℕ → ℕ → ℕ → Bool
is_range bits start width = nat_le 1 width && nat_le (start + width) bits

abbrev pub range : ℕ → Spot → Walk Range
range bits here =
    an_object here >>> λ _.
    needed (codes "start") here >>> number_below (2 ^ 32) >>> λ start.
    needed (codes "width") here >>> number_below (2 ^ 32) >>> λ width.
    unless (is_range bits start width) here BadRange >>> λ _.
    Done (record { start = start; width = width })

abbrev pub rangeset : ℕ → Spot → Walk (List Range)
rangeset bits here = needed (codes "rangeset") here >>> λ list. elements list >>> each (λ before. range bits) list.at []

-- ---- fields

-- a field that has a name is made of its ranges. One without a name is passed over, whatever its ranges are
abbrev pub plain_field : ℕ → Spot → Option (List ℕ) → Walk (List Field)
plain_field bits here None = Done []
plain_field bits here (Some name) = rangeset bits here >>> λ ranges. Done (record { name = name; ranges = ranges; condition = None } ∷ [])

-- the name of the field that an entry of a conditional field holds: it counts for nothing where the field is of another kind
abbrev pub candidate_name : Spot → FieldKind → Walk (Option (List ℕ))
candidate_name here kind_of.Field = optional (codes "name") (wide_name here) here
candidate_name here ConditionalField = Done None
candidate_name here OtherField = Done None

-- a candidate is a field with a name, under the entry's condition, made of the ranges of the conditional field
abbrev pub candidates : List Range → Option Expr → Option (List ℕ) → List Field
candidates ranges condition None = []
candidates ranges condition (Some name) = record { name = name; ranges = ranges; condition = condition } ∷ []

abbrev pub candidate : List Range → Spot → Walk (List Field)
candidate ranges here =
    an_object here >>> λ _.
    condition here >>> λ condition.
    needed (codes "field") here >>> λ inner.
    kind field_named inner >>> candidate_name inner >>> λ name.
    Done (candidates ranges condition name)

-- a field by its kind: what each gives is listed
abbrev pub field_of : ℕ → Spot → FieldKind → Walk (List Field)
field_of bits here kind_of.Field = optional (codes "name") (wide_name here) here >>> plain_field bits here
field_of bits here ConditionalField =
    rangeset bits here >>> λ ranges.
    needed (codes "fields") here >>> λ list.
    elements list >>> each (λ before. candidate ranges) list.at [] >>> λ found.
    Done (flat_map (λ fields. fields) found)
field_of bits here OtherField = Done []

abbrev pub field : ℕ → Spot → Walk (List Field)
field bits here = kind field_named here >>> field_of bits here

-- ---- fieldsets

-- the number of bits, 1 to 128
abbrev pub width : Spot → Walk ℕ
width here =
    needed (codes "width") here >>> λ place.
    number_below (width_limit + 1) place >>> λ bits.
    unless (nat_le 1 bits) place WrongShape >>> λ _.
    Done bits

-- a fieldset behind those before it of the register
abbrev pub fieldset : List Fieldset → Spot → Walk Fieldset
fieldset before here =
    an_object here >>> λ _.
    width here >>> λ bits.
    unless (nat_lt (length before) fieldset_limit) here TooMany >>> λ _.
    condition here >>> λ condition.
    needed (codes "values") here >>> λ list.
    elements list >>> each (λ before. field bits) list.at [] >>> λ found.
    Done (record { width = bits; condition = condition; fields = flat_map (λ fields. fields) found })
