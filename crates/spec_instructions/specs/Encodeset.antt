-- An encodeset as a walk: its items with their ranges, values, masks and names.
use Rattle.std.specs.Prelude.{ℕ, ◌+◌, ◌^◌, List, [], ◌∷◌, length, map, filter_map, count_by, Bool, true, false, not, ◌&&◌, ◌||◌, ◌==◌, nat_le, nat_lt, Option, Some, None, is_some, Result, Ok, Err, codes, bytes_eq, find, unwrap_or, option_to_list}
use Rattle.std.specs.List.{list_any}
use Rattle.spec_bits.specs.Pattern.{Digit, Zero, One, Either}
use Rattle.spec_bits.specs.PatternText.{PatternRefusal, pattern_in}
use Rattle.spec_bits.specs.Item.{Item}
use Rattle.spec_walk.specs.Event.{WrongShape, BadPattern, BadRange, BadName, Doubled, TooMany}
use Rattle.spec_instructions.specs.Name.{is_name}
use Rattle.spec_instructions.specs.Limits.{item_limit, named_limit}
use Rattle.spec_walk.specs.Walk.{Walk, Done, ◌>>>◌}
use Rattle.spec_walk.specs.Spot.{Spot, wrong, unless, an_object, elements, text, number_below, needed, optional, kind, exactly, named, each}

-- ---- ranges

-- the lowest bit, and how many bits there are
pub record Range : Type 0 where
  pub start : ℕ
  pub width : ℕ

-- a range is not empty and ends within the 32 bits of the word
abbrev pub is_range : ℕ → ℕ → Bool
is_range start width = nat_le 1 width && nat_le (start + width) 32

abbrev pub range : Spot → Walk Range
range here =
    an_object here >>> λ _.
    needed (codes "start") here >>> number_below (2 ^ 32) >>> λ start.
    needed (codes "width") here >>> number_below (2 ^ 32) >>> λ width.
    unless (is_range start width) here BadRange >>> λ _.
    Done (record { start = start; width = width })

-- ---- values and masks

-- a pattern of as many digits as the range is wide
abbrev pub pattern : ℕ → Spot → Result (List Digit) PatternRefusal → Walk (List Digit)
pattern width here (Ok digits) = unless (length digits == width) here BadRange >>> λ _. Done digits
pattern width here (Err refusal) = wrong here (BadPattern refusal)

abbrev pub value : ℕ → Spot → Walk (List Digit)
value width here =
    exactly (codes "Values.Value") here >>> λ _.
    needed (codes "value") here >>> λ place.
    text place >>> λ s.
    pattern width place (pattern_in s)

-- a digit that can be should-be is `0` or `1`
abbrev pub is_binary : Digit → Bool
is_binary Zero = true
is_binary One = true
is_binary Either = false

abbrev pub is_one : Digit → Bool
is_one Zero = false
is_one One = true
is_one Either = false

-- a digit `1` of the mask marks its digit of the value where that is `0` or `1`; where there is no mask nothing is marked
abbrev pub marked_by : List Digit → List Digit → List Bool
marked_by [] mask = []
marked_by (d ∷ ds) [] = false ∷ marked_by ds []
marked_by (d ∷ ds) (m ∷ ms) = (is_binary d && is_one m) ∷ marked_by ds ms

-- ---- items

-- bits, a field, which has a name, and bits of which all that are `0` or `1` are should-be
pub data ItemKind : Type 0 where
  Bits : ItemKind
  Field : ItemKind
  ShouldBeBits : ItemKind

abbrev pub item_kind_text : ItemKind → List ℕ
item_kind_text Bits = codes "Instruction.Encodeset.Bits"
item_kind_text Field = codes "Instruction.Encodeset.Field"
item_kind_text ShouldBeBits = codes "Instruction.Encodeset.ShouldBeBits"

abbrev pub item_kind_named : List ℕ → Option ItemKind
item_kind_named s = find (λ k. bytes_eq (item_kind_text k) s) (Bits ∷ Field ∷ ShouldBeBits ∷ [])

-- bits of which a mask may mark some as should-be
abbrev pub masked : Spot → Walk Item
masked here =
    needed (codes "range") here >>> range >>> λ range.
    needed (codes "value") here >>> value range.width >>> λ digits.
    optional (codes "should_be_mask") (value range.width) here >>> λ mask.
    Done (record { name = None; start = range.start; digits = digits; marks = marked_by digits (unwrap_or mask []) })

abbrev pub should_be : Spot → Walk Item
should_be here =
    needed (codes "range") here >>> range >>> λ range.
    needed (codes "value") here >>> value range.width >>> λ digits.
    Done (record { name = None; start = range.start; digits = digits; marks = map is_binary digits })

-- the names of those items that have one
abbrev pub names_of : List Item → List (List ℕ)
names_of items = filter_map (λ it. it.name) items

-- a field's name is none of the words `rest` and `sys`, and no earlier field of the encodeset has it
abbrev pub is_field_name : List ℕ → Bool
is_field_name s = is_name s && not (bytes_eq s (codes "rest") || bytes_eq s (codes "sys"))

abbrev pub field_name : List Item → Spot → Walk (List ℕ)
field_name earlier here =
    needed (codes "name") here >>> λ place.
    text place >>> λ s.
    unless (is_field_name s) place BadName >>> λ _.
    unless (not (list_any (bytes_eq s) (names_of earlier))) place Doubled >>> λ _.
    Done s

abbrev pub item_parts : List Item → Spot → ItemKind → Walk Item
item_parts earlier here Bits = masked here
item_parts earlier here Field = field_name earlier here >>> named here >>> λ name. masked here >>> λ it. Done (record it { name = Some name })
item_parts earlier here ShouldBeBits = should_be here

-- how many items have a name
abbrev pub named_in : List Item → ℕ
named_in items = count_by (λ it. is_some it.name) items

-- the item at a place of its encodeset, with which its path has so many named items
abbrev pub within_limits : ℕ → ℕ → Bool
within_limits place named_with_it = nat_lt place item_limit && nat_le named_with_it named_limit

-- an item behind the earlier ones of its encodeset, and behind so many named items of its path
abbrev pub item : ℕ → List Item → Spot → Walk Item
item named earlier here =
    kind item_kind_named here >>> item_parts earlier here >>> λ it.
    unless (within_limits (length earlier) (named + length (option_to_list it.name))) here TooMany >>> λ _.
    Done it

-- ---- the encodeset

-- an encodeset behind so many named items of its path
abbrev pub encodeset : ℕ → Spot → Walk (List Item)
encodeset above here =
    exactly (codes "Instruction.Encodeset.Encodeset") here >>> λ _.
    needed (codes "width") here >>> λ place. number_below (2 ^ 32) place >>> λ width. unless (width == 32) place WrongShape >>> λ _.
    needed (codes "values") here >>> λ list.
    elements list >>> each (λ earlier. item (above + named_in earlier) earlier) list.at []
