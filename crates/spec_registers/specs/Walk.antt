-- A Registers document as a walk, whose value is its registers.
use Rattle.std.specs.Prelude.{ℕ, List, [], ◌∷◌, length, count_by, nat_lt, unwrap_or, codes}
use Rattle.spec_walk.specs.Event.{TooMany}
use Rattle.spec_walk.specs.Walk.{Walk, Done, ◌>>>◌}
use Rattle.spec_walk.specs.Spot.{Spot, unless, elements, needed, optional, kind, each}
use Rattle.spec_registers.specs.Limits.{register_limit}
use Rattle.spec_registers.specs.Kind as kind_of
use Rattle.spec_registers.specs.Kind.{ElementKind, RegisterArray, RegisterBlock, element_named}
use Rattle.spec_registers.specs.Registers.{Registers, together, entries_of}
use Rattle.spec_registers.specs.Fields.{wide_name, condition, fieldset}
use Rattle.spec_registers.specs.Accessors.{accessor, entries_in, is_passed}

-- the elements of a member, which has none where it is absent or null
abbrev pub listed : {A : Type 0} → List ℕ → (List A → Spot → Walk A) → Spot → Walk (List A)
listed key read here = optional key (λ list. elements list >>> each read list.at []) here >>> λ found. Done (unwrap_or found [])

-- a register behind these, which stand before it in the document
abbrev pub register : Registers → Spot → Walk Registers
register before here =
    needed (codes "name") here >>> wide_name here >>> λ name.
    unless (nat_lt (length before.registers) register_limit) here TooMany >>> λ _.
    condition here >>> λ condition.
    listed (codes "fieldsets") fieldset here >>> λ fieldsets.
    listed (codes "accessors") (accessor name (length (entries_of before.registers))) here >>> λ accessors.
    Done (record {
      registers = record { name = name; condition = condition; fieldsets = fieldsets; entries = entries_in accessors } ∷ [];
      arrays = 0;
      blocks = 0;
      passed = count_by is_passed accessors;
    })

-- what an element gives by its kind: arrays and blocks of registers are counted alone
abbrev pub element_of : Registers → Spot → ElementKind → Walk Registers
element_of before here kind_of.Register = register before here
element_of before here RegisterArray = Done (record { registers = []; arrays = 1; blocks = 0; passed = 0 })
element_of before here RegisterBlock = Done (record { registers = []; arrays = 0; blocks = 1; passed = 0 })

abbrev pub element : List Registers → Spot → Walk Registers
element before here = kind element_named here >>> element_of (together before) here

-- the document, an array
abbrev pub registers : Spot → Walk Registers
registers here = elements here >>> each element here.at [] >>> λ found. Done (together found)
