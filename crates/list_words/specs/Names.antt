-- Names of fields by their bytes.
use Rattle.std.specs.Prelude.{◌≡◌, ◌<◌, ℕ, Bool, not, List, length, bytes_eq, true, Option, MatchOption}
use Rattle.std.specs.List.{list_all}
use Rattle.mrs_names.specs.declared.name_id.NameId.{NameId}
use Rattle.mrs_arena.specs.Placed.{text_of}
use Rattle.insn_tree.specs.declared.field_range.FieldRange.{FieldRange}

-- a field has another name
abbrev pub is_other : List (List ℕ) → List ℕ → FieldRange → Bool
is_other names text f = not (bytes_eq (text_of names f.name.0) text)

-- the number is that of a name with this text; where there is none, no field of these has the name
abbrev pub IsNameFor : List (List ℕ) → List FieldRange → List ℕ → Option NameId → Type 0
IsNameFor names fields text id = MatchOption id (list_all (is_other names text) fields ≡ true) (λ (n : NameId). (n.0 < length names) × (text_of names n.0 ≡ text))
