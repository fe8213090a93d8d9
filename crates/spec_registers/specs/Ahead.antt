-- Which accessors are passed over for a computed part of their key. This is seen by looking ahead, before anything behind
-- the accessor's name is read: what has not the shape that is looked for is no reason.
use Rattle.std.specs.Prelude.{Bool, true, false, ◌||◌, Option, Some, None, option_and_then, codes}
use Rattle.std.specs.List.{list_any}
use Rattle.serde_json.specs.Data.{Data, Items, no_items, item}
use Rattle.serde_json.specs.Find.{get, as_array, as_str}
use Rattle.spec_registers.specs.Kind.{ValueKind, Value, OtherValue, value_named}
use Rattle.spec_registers.specs.Key.{parts, part_text}

-- a value of another kind than digits
abbrev pub is_other : Option ValueKind → Bool
is_other (Some OtherValue) = true
is_other (Some Value) = false
is_other None = false

abbrev pub is_computed : Option Data → Bool
is_computed member = is_other (option_and_then value_named (option_and_then as_str (option_and_then (get (codes "_type")) member)))

-- some part of the key is computed
abbrev pub has_computed_part : Option Data → Bool
has_computed_part encodings = list_any (λ part. is_computed (option_and_then (get (part_text part)) encodings)) parts

abbrev pub some_item : (Data → Bool) → Option Items → Bool
some_item test None = false
some_item test (Some no_items) = false
some_item test (Some (item d ds)) = test d || some_item test (Some ds)

-- so it is in some element of the accessor's `encoding`
abbrev pub has_computed_key : Data → Bool
has_computed_key accessor = some_item (λ d. has_computed_part (get (codes "encodings") d)) (option_and_then as_array (get (codes "encoding") accessor))
