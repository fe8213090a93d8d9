-- What an object says of itself as an expression, before any part of it is read. An object whose `_type` or members have
-- not the shape that is stated here is `Other`, whatever stands inside. Members and shapes are this project's own, written
-- after AARCHMRS.
use Rattle.std.specs.Prelude.{ℕ, List, Bool, true, false, ◌&&◌, if◌then◌else◌, Option, Some, None, codes, bytes_eq, option_and_then, option_map, unwrap_or, Result, Ok, Err}
use Rattle.spec_bits.specs.Pattern.{Digit}
use Rattle.spec_bits.specs.PatternText.{PatternRefusal, pattern_in}
use Rattle.serde_json.specs.Data.{Data, array, Items, no_items, item}
use Rattle.serde_json.specs.Find.{get, as_bool, as_str, as_number, as_i64}
use Rattle.spec_walk.specs.Name.{is_name}
use Rattle.spec_walk.specs.Spot.{is_object}
use Rattle.spec_expressions.specs.Kind.{ExprKind, OfBool, OfInteger, OfBits, OfIdentifier, OfUnary, OfBinary, OfFunction, OfSet, OfConcat, OfSquare, kind_named}
use Rattle.spec_expressions.specs.Expression.{Expr, Boolean, Integer, Bits, Other, Op, op_named}

pub data Shape : Type 0 where
  -- an expression that has no parts and holds no name
  Plain : Expr → Shape
  AName : List ℕ → Shape
  -- not `expr`
  ANot : Shape
  -- `left` and `right`
  ABinary : Op → Shape
  -- of `arguments`
  ACall : List ℕ → Shape
  -- of `values`
  ASet : Shape
  AJoin : Shape
  -- of `var` the one bit that the argument says, or the bits from the `left` of the argument to its `right`
  AnIndex : Shape
  ASlice : Shape

-- ---- members

abbrev pub text_at : List ℕ → Data → Option (List ℕ)
text_at key d = option_and_then as_str (get key d)

-- the member is that text
abbrev pub is_text : List ℕ → Option (List ℕ) → Bool
is_text wanted None = false
is_text wanted (Some s) = bytes_eq wanted s

abbrev pub says : List ℕ → List ℕ → Data → Bool
says key wanted d = is_text wanted (text_at key d)

-- the member is a text within the limits on names
abbrev pub name_at : List ℕ → Data → Option (List ℕ)
name_at key d = option_and_then (λ s. if is_name s then Some s else None) (text_at key d)

-- the member is the text of a pattern
abbrev pub accepted : Result (List Digit) PatternRefusal → Option (List Digit)
accepted (Ok digits) = Some digits
accepted (Err refusal) = None

abbrev pub bits_at : List ℕ → Data → Option (List Digit)
bits_at key d = option_and_then (λ s. accepted (pattern_in s)) (text_at key d)

-- the member is an object, which a part of an expression has to be
abbrev pub has_object : List ℕ → Data → Bool
has_object key d = unwrap_or (option_map is_object (get key d)) false

-- the member is an array of objects
abbrev pub are_objects : Items → Bool
are_objects no_items = true
are_objects (item d ds) = is_object d && are_objects ds

abbrev pub is_array_of_objects : Data → Bool
is_array_of_objects (array ds) = are_objects ds
is_array_of_objects d = false

abbrev pub has_objects : List ℕ → Data → Bool
has_objects key d = unwrap_or (option_map is_array_of_objects (get key d)) false

-- the one element of an array that has no other
abbrev pub the_one : Data → Option Data
the_one (array (item d no_items)) = Some d
the_one d = None

-- ---- the shape of an object

abbrev pub where_so : Bool → Option Shape → Option Shape
where_so true shape = shape
where_so false shape = None

-- the argument of a square operator is an `AST.Slice`, which has to have both its ends, or any expression
abbrev pub index_shape : Data → Option Shape
index_shape d =
    if says (codes "_type") (codes "AST.Slice") d then where_so (has_object (codes "left") d && has_object (codes "right") d) (Some ASlice)
    else where_so (is_object d) (Some AnIndex)

-- the shape of an object of a kind, where its members are as the kind demands. A whole number is one as serde_json keeps it,
-- from -2^63 to 2^63 - 1
abbrev pub kind_shape : ExprKind → Data → Option Shape
kind_shape OfBool d = option_map (λ b. Plain (Boolean b)) (option_and_then as_bool (get (codes "value") d))
kind_shape OfInteger d = option_map (λ z. Plain (Integer z)) (option_and_then as_i64 (option_and_then as_number (get (codes "value") d)))
kind_shape OfBits d = option_map (λ digits. Plain (Bits digits)) (bits_at (codes "value") d)
kind_shape OfIdentifier d = option_map AName (name_at (codes "value") d)
kind_shape OfUnary d = where_so (says (codes "op") (codes "!") d && has_object (codes "expr") d) (Some ANot)
kind_shape OfBinary d = where_so (has_object (codes "left") d && has_object (codes "right") d) (option_map ABinary (option_and_then op_named (text_at (codes "op") d)))
kind_shape OfFunction d = where_so (has_objects (codes "arguments") d) (option_map ACall (name_at (codes "name") d))
kind_shape OfSet d = where_so (has_objects (codes "values") d) (Some ASet)
kind_shape OfConcat d = where_so (has_objects (codes "values") d) (Some AJoin)
kind_shape OfSquare d = where_so (has_object (codes "var") d) (option_and_then index_shape (option_and_then the_one (get (codes "arguments") d)))

abbrev pub shape_of : Data → Shape
shape_of d = unwrap_or (option_and_then (λ k. kind_shape k d) (option_and_then kind_named (text_at (codes "_type") d))) (Plain Other)
