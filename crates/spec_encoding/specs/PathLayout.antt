-- What the items and conditions along a path say of the bits of words: the fields that are shown, the bits that are free and
-- unnamed, their defaults, and what excludes a word. The path may end at an alias.
use Rattle.std.specs.Prelude.{ℕ, ◌+◌, Bool, true, false, not, ◌&&◌, ◌||◌, nat_lt, List, [], ◌∷◌, ◌++◌, length, filter, Option, Some, None, is_none, unwrap_or, if◌then◌else◌}
use Rattle.std.specs.Option.{option_or}
use Rattle.std.specs.List.{list_any, list_all, range_with_len}
use Rattle.spec_bits.specs.Item.{Item, fixes, should_be, item_holds}
use Rattle.spec_expressions.specs.Truth.{Truth, Yes, No, Open}
use Rattle.spec_expressions.specs.Scope.{Configuration}
use Rattle.spec_instructions.specs.Tree.{Own}
use Rattle.spec_instructions.specs.Paths.{path_items}
use Rattle.spec_instructions.specs.Fields.{Field, fields}
use Rattle.spec_decode.specs.Verdict.{condition_truth}
use Rattle.spec_encoding.specs.Parts.{covers}
use Rattle.spec_encoding.specs.Layout.{Layout, numbers, rest_in}

-- the value to which the first item that fixes bit i fixes it
abbrev pub first_fixed : List Item → ℕ → Option ℕ
first_fixed [] i = None
first_fixed (it ∷ items) i = option_or (fixes it i) (first_fixed items i)

abbrev pub fixed_at : List Own → ℕ → Option ℕ
fixed_at path i = first_fixed (path_items path) i

-- the value of the last should-be digit for bit i, which is the deepest
abbrev pub last_should_be : List Item → ℕ → Option ℕ
last_should_be [] i = None
last_should_be (it ∷ items) i = option_or (last_should_be items i) (should_be it i)

-- a field is shown where some bit of it is fixed by no item
abbrev pub is_open : (ℕ → Option ℕ) → ℕ → ℕ → Bool
is_open fixed start width = list_any (λ k. is_none (fixed (start + k))) (range_with_len 0 width)

abbrev pub is_shown : List Own → Field → Bool
is_shown path f = is_open (fixed_at path) f.start f.width

abbrev pub shown : List Own → List Field
shown path = filter (is_shown path) (fields path)

-- a bit is free and unnamed where no item fixes it and no visible field has it
abbrev pub is_free : List Own → ℕ → Bool
is_free path i = nat_lt i 32 && (is_none (fixed_at path i) && not (list_any (λ f. covers f.start f.width i) (fields path)))

-- its default is the value of the deepest item with a should-be digit for it, and 0 where none has one
abbrev pub default_at : List Own → ℕ → ℕ
default_at path i = unwrap_or (last_should_be (path_items path) i) 0

abbrev pub layout : List Own → Layout
layout path = record { fixed = fixed_at path; free = is_free path; default = default_at path }

-- the free unnamed bits of a path as a number, and the defaults of these bits, with 0 elsewhere
abbrev pub free_unnamed : List Own → ℕ
free_unnamed path = (numbers (layout path)).free

abbrev pub default_bits : List Own → ℕ
default_bits path = (numbers (layout path)).default

-- the rest of a word: its free unnamed bits against their defaults
abbrev pub rest_of : List Own → ℕ → ℕ
rest_of path w = rest_in (layout path) w

-- ---- what excludes a word

abbrev pub is_no : Truth → Bool
is_no Yes = false
is_no No = true
is_no Open = false

-- a node, behind those above it, excludes a word: an item of the node does not hold, or its condition is No
abbrev pub node_excludes : List Own → Own → Configuration → ℕ → Bool
node_excludes above own g w = not (list_all (λ it. item_holds it w) own.items) || is_no (condition_truth above own g w)

-- the first of the nodes that excludes a word, counted from the root
abbrev pub excluded_from : List Own → List Own → Configuration → ℕ → Option ℕ
excluded_from above [] g w = None
excluded_from above (own ∷ path) g w = if node_excludes above own g w then Some (length above) else excluded_from (above ++ own ∷ []) path g w

abbrev pub excluded_at : List Own → Configuration → ℕ → Option ℕ
excluded_at path g w = excluded_from [] path g w
