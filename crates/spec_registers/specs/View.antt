-- What a fieldset shows of a value: pieces, each the bits of a range of a field that is there, or of a gap.
use Rattle.std.specs.Prelude.{◌≡◌, ◌<◌, ◌-◌, ℕ, Bool, true, false, List, [], ◌++◌, map, flat_map, filter, Option, Some, None}
use Rattle.std.specs.List.{list_any, AllByRecursion}
use Rattle.spec_bits.specs.Bits.{bit_of, slice}
use Rattle.spec_expressions.specs.Truth.{Truth, Yes, No, Open}
use Rattle.spec_expressions.specs.Scope.{Configuration}
use Rattle.spec_expressions.specs.Value.{truth}
use Rattle.spec_instructions.specs.Encodeset.{Range}
use Rattle.spec_registers.specs.Registers.{FieldOf, Field, Fieldset}
use Rattle.spec_registers.specs.Gaps.{covers, is_covered, gaps}

-- the bits of a value in a range: of the field of that name, or of a gap, which has none
pub record PieceOf (N : Type 0) : Type 0 where
  pub name : Option N
  pub start : ℕ
  pub width : ℕ
  pub value : ℕ

abbrev pub Piece : Type 0
Piece = PieceOf (List ℕ)

abbrev pub piece : {N : Type 0} → ℕ → Option N → Range → PieceOf N
piece value name r = record { name = name; start = r.start; width = r.width; value = slice value r.start r.width }

-- ---- the fields that are there

-- a condition excludes what it belongs to where it is No. Registers see no field of a word
abbrev pub is_not_no : Truth → Bool
is_not_no Yes = true
is_not_no No = false
is_not_no Open = true

abbrev pub is_shown : Configuration → Field → Bool
is_shown g f = is_not_no (truth f.condition g [] 0)

abbrev pub shown : Configuration → Fieldset → List Field
shown g fs = filter (is_shown g) fs.fields

-- ---- the view

abbrev pub field_pieces : {N : Type 0} → ℕ → FieldOf N → List (PieceOf N)
field_pieces value f = map (piece value (Some f.name)) f.ranges

abbrev pub ranges_of : {N : Type 0} → List (FieldOf N) → List Range
ranges_of fields = flat_map (λ f. f.ranges) fields

-- of these fields in order, range by range, and then of the gaps, the highest first
abbrev pub pieces : {N : Type 0} → ℕ → ℕ → List (FieldOf N) → List (PieceOf N)
pieces bits value fields = flat_map (field_pieces value) fields ++ map (piece value None) (gaps bits (is_covered (ranges_of fields)))

abbrev pub view : Fieldset → Configuration → ℕ → List Piece
view fs g value = pieces fs.width value (shown g fs)

-- ---- what this comes to

-- pieces recombine to a value of so many bits: each bit stands in a piece, and each piece agrees with the value in all its bits
pub record Recombine {N : Type 0} (bits value : ℕ) (ps : List (PieceOf N)) : Type 0 where
  pub whole : (i : ℕ) → i < bits → list_any (λ p. covers p.start p.width i) ps ≡ true
  pub agree : AllByRecursion (λ p. (i : ℕ) → covers p.start p.width i ≡ true → bit_of p.value (i - p.start) ≡ bit_of value i) ps

-- so do the pieces of each fieldset, under each configuration and for each value
abbrev pub ViewsRecombine : Type 0
ViewsRecombine = (fs : Fieldset) (g : Configuration) (value : ℕ) → Recombine fs.width value (view fs g value)
