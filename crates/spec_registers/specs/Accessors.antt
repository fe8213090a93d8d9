-- An accessor as a walk: the entries that it gives, or that it is passed over.
use Rattle.std.specs.Prelude.{ℕ, ◌+◌, List, [], length, flat_map, Bool, true, false, nat_lt, Option, Some, None, unwrap_or, codes, bytes_eq, if◌then◌else◌}
use Rattle.spec_walk.specs.Event.{TooMany}
use Rattle.spec_walk.specs.Walk.{Walk, Done, ◌>>>◌}
use Rattle.spec_walk.specs.Spot.{Spot, unless, an_object, elements, text, needed, optional, kind, each}
use Rattle.spec_expressions.specs.Expression.{Expr}
use Rattle.spec_registers.specs.Limits.{entry_limit}
use Rattle.spec_registers.specs.Kind.{AccessorKind, SystemAccessor, OtherAccessor, accessor_named}
use Rattle.spec_registers.specs.Registers.{Direction, Read, Write, Entry}
use Rattle.spec_registers.specs.Fields.{wide_name, condition}
use Rattle.spec_registers.specs.Key.{encodings}
use Rattle.spec_registers.specs.Ahead.{has_computed_key}

-- the two instructions whose accessors are read
abbrev pub direction_named : List ℕ → Option Direction
direction_named text =
    if bytes_eq text (codes "A64.MRS") then Some Read
    else (if bytes_eq text (codes "A64.MSRregister") then Some Write else None)

-- what an accessor gives: an entry for each element of its `encoding`, unless it counts as passed over
pub data Accessor : Type 0 where
  Entries : List Entry → Accessor
  Passed : Accessor

abbrev pub accessor_entries : Accessor → List Entry
accessor_entries (Entries entries) = entries
accessor_entries Passed = []

abbrev pub is_passed : Accessor → Bool
is_passed (Entries entries) = false
is_passed Passed = true

abbrev pub entries_in : List Accessor → List Entry
entries_in accessors = flat_map accessor_entries accessors

-- what the entries of an accessor share: the register's name, which is printed unless `asmvalue` gives another, the direction, and when the accessor is there
pub record Shared : Type 0 where
  pub register : List ℕ
  pub direction : Direction
  pub condition : Option Expr

-- the entry of an element of `encoding`, behind so many entries of the document
abbrev pub entry : Shared → ℕ → Spot → Walk Entry
entry shared earlier here =
    an_object here >>> λ _.
    optional (codes "asmvalue") (wide_name here) here >>> λ name.
    needed (codes "encodings") here >>> encodings >>> λ key.
    unless (nat_lt earlier entry_limit) here TooMany >>> λ _.
    Done (record { direction = shared.direction; name = unwrap_or name shared.register; condition = shared.condition; key = key })

-- an accessor of a direction is read on; of one that has none nothing more is
abbrev pub directed : List ℕ → ℕ → Spot → Option Direction → Walk Accessor
directed register earlier here None = Done Passed
directed register earlier here (Some direction) =
    condition here >>> λ condition.
    needed (codes "encoding") here >>> λ list.
    elements list >>> each (λ before. entry (record { register = register; direction = direction; condition = condition }) (earlier + length before)) list.at [] >>> λ entries.
    Done (Entries entries)

-- the direction by the accessor's name, unless a part of the key is computed
abbrev pub direction_of : List ℕ → Spot → Option Direction
direction_of name here = if has_computed_key here.value then None else direction_named name

abbrev pub accessor_of : List ℕ → ℕ → Spot → AccessorKind → Walk Accessor
accessor_of register earlier here SystemAccessor =
    needed (codes "name") here >>> text >>> λ name.
    directed register earlier here (direction_of name here)
accessor_of register earlier here OtherAccessor = Done Passed

-- an accessor of the register of that name, behind so many entries of earlier registers and behind the accessors before it
abbrev pub accessor : List ℕ → ℕ → List Accessor → Spot → Walk Accessor
accessor register earlier before here = kind accessor_named here >>> accessor_of register (earlier + length (entries_in before)) here
