-- Values of named fields, as pairs of a name and a value, and the word that they and a rest are encoded to.
use Rattle.std.specs.Prelude.{ℕ, ◌+◌, Bool, not, List, [], ◌∷◌, ◌++◌, map, Option, Some, None, is_none, Result, if◌then◌else◌, find, option_map}
use Rattle.std.specs.List.{list_any, position_from}
use Rattle.spec_encoding.specs.Parts.{Part}
use Rattle.spec_encoding.specs.Layout.{Layout}
use Rattle.spec_encoding.specs.Refusal.{Refusal, UnknownField, DoubledField, MissingField, unless}
use Rattle.spec_encoding.specs.Placed.{placed}

-- a field by a name of any type, its lowest bit and how many bits it has
pub record FieldOf (N : Type 0) : Type 0 where
  pub name : N
  pub start : ℕ
  pub width : ℕ

-- names are compared by a test
module _ {N : Type 0} (same : N → N → Bool) where
  -- the shown field of a name
  abbrev pub field_for : List (FieldOf N) → N → Option (FieldOf N)
  field_for shown name = find (λ f. same f.name name) shown

  abbrev pub is_unknown : List (FieldOf N) → N × ℕ → Bool
  is_unknown shown pair = is_none (field_for shown pair.0)

  -- a name is one of those of some pairs
  abbrev pub is_paired : List (N × ℕ) → N → Bool
  is_paired pairs name = list_any (λ pair. same pair.0 name) pairs

  -- the first of the pairs, counted from k, whose name stands in a pair before it
  abbrev pub doubled_from : List (N × ℕ) → ℕ → List (N × ℕ) → Option ℕ
  doubled_from before k [] = None
  doubled_from before k (pair ∷ pairs) = if is_paired before pair.0 then Some k else doubled_from (before ++ pair ∷ []) (k + 1) pairs

  -- the name of the first shown field without a pair
  abbrev pub missing : List (FieldOf N) → List (N × ℕ) → Option N
  missing shown pairs = option_map (λ f. f.name) (find (λ f. not (is_paired pairs f.name)) shown)

  -- a pair as a part of the word; one with an unknown name covers no bit
  abbrev pub part_from : Option (FieldOf N) → ℕ → Part
  part_from None value = record { start = 0; width = 0; value = 0 }
  part_from (Some f) value = record { start = f.start; width = f.width; value = value }

  abbrev pub parts : List (FieldOf N) → List (N × ℕ) → List Part
  parts shown pairs = map (λ pair. part_from (field_for shown pair.0) pair.1) pairs

  -- the word, or the first refusal: the first pair whose name is not shown, the first whose name stood before, and the first
  -- shown field without a pair; then what the parts refuse
  abbrev pub encoded : Layout → (ℕ → Option ℕ) → List (FieldOf N) → List (N × ℕ) → ℕ → Result ℕ (Refusal N)
  encoded l excluded shown pairs rest =
      unless (position_from (is_unknown shown) 0 pairs) UnknownField
      (unless (doubled_from [] 0 pairs) DoubledField
      (unless (missing shown pairs) MissingField
      (placed l excluded (parts shown pairs) rest)))
