-- What holds of truths, values and the walk of an expression.
use Rattle.std.specs.Prelude.{◌≡◌, ℕ, ◌+◌, ◌-◌, ◌≤◌, ◌<◌, pos, List, [], length, Bool, true, false, not, ◌&&◌, ◌||◌, bytes_eq, codes, Some, is_some, Ok, Err}
use Rattle.std.specs.List.{list_any}
use Rattle.spec_bits.specs.Bits.{slice}
use Rattle.spec_bits.specs.Pattern.{Digit, pattern_holds}
use Rattle.spec_walk.specs.Event.{TooMany, WrongShape}
use Rattle.spec_walk.specs.Limits.{Counts, name_limit}
use Rattle.spec_walk.specs.Walk as walk
use Rattle.spec_walk.specs.Walk.{gives, ◌>>>◌}
use Rattle.spec_walk.specs.Spot.{Spot, is_object, wrong, needed, named, elements, each}
use Rattle.spec_walk.specs.Descend.{elements_at}
use Rattle.spec_expressions.specs.Expression.{Op, Expr, Name, Not, Binary, Call, Set, Join, Slice, Named, function_named, exprs_of}
use Rattle.spec_expressions.specs.Shape.{Shape, Plain, AName, ANot, ABinary, ACall, ASet, AJoin, AnIndex, ASlice, shape_of}
use Rattle.spec_expressions.specs.Reading.{Itself, reader, counted, function_at, sole, expression}
use Rattle.spec_expressions.specs.Truth.{Truth, Yes, No, truth_of, negation, conjunction, disjunction, implication, equivalence}
use Rattle.spec_expressions.specs.Digits.{number_of, equal_digits, digits_between}
use Rattle.spec_expressions.specs.Scope.{Field, field_digits}
use Rattle.spec_expressions.specs.Operations.{Value, equal}

-- ---- truths

-- Kleene's strong tables, and no others: of truths that are known they say what is said of Booleans; a No decides an And
-- whatever the other side is, a Yes leaves it to the other side, a truth And itself is that truth, and sides may change
-- places; And and Or are each other's mirror; an implication is the Or of its left side's Not and its right side, and two truths
-- are equal where each implies the other
pub record AreKleene : Type 0 where
  pub not_known : (a : Bool) → negation (truth_of a) ≡ truth_of (not a)
  pub and_known : (a b : Bool) → conjunction (truth_of a) (truth_of b) ≡ truth_of (a && b)
  pub or_known : (a b : Bool) → disjunction (truth_of a) (truth_of b) ≡ truth_of (a || b)
  pub twice : (a : Truth) → negation (negation a) ≡ a
  pub and_no : (a : Truth) → conjunction a No ≡ No
  pub and_yes : (a : Truth) → conjunction a Yes ≡ a
  pub and_itself : (a : Truth) → conjunction a a ≡ a
  pub and_sides : (a b : Truth) → conjunction a b ≡ conjunction b a
  pub not_and : (a b : Truth) → negation (conjunction a b) ≡ disjunction (negation a) (negation b)
  pub not_or : (a b : Truth) → negation (disjunction a b) ≡ conjunction (negation a) (negation b)
  pub implies : (a b : Truth) → implication a b ≡ disjunction (negation a) b
  pub iff : (a b : Truth) → equivalence a b ≡ conjunction (implication a b) (implication b a)

-- ---- values

-- either side of `==` may stand first
abbrev pub EqualIsSymmetric : Type 0
EqualIsSymmetric = (a b : Value) → equal a b ≡ equal b a

-- ---- fields

-- a field's bits write the slice of the word, are equal to a pattern of their width where it holds of that slice, and a part
-- of them is the field that has that part
pub record AreSlices : Type 0 where
  pub number : (f : Field) (w : ℕ) → number_of (field_digits f w) ≡ Some (slice w f.start f.width)
  pub equal : (f : Field) (w : ℕ) (ds : List Digit) → length ds ≡ f.width → equal_digits (field_digits f w) ds ≡ truth_of (pattern_holds ds (slice w f.start f.width))
  pub part : (f : Field) (w high low : ℕ) → low ≤ high → high < f.width
      → digits_between (pos high) (pos low) (field_digits f w) ≡ Some (field_digits (record f { start = f.start + low; width = high - low + 1 }) w)

-- ---- the walk

-- limits apart, the walk of an expression has a value exactly at an object
abbrev pub EachObjectIsOne : Type 0
EachObjectIsOne = (here : Spot) → is_some (walk.value (expression here)) ≡ is_object here.value

-- an object of that shape
pub record HasShape (here : Spot) (shape : Shape) : Type 0 where
  pub object : is_object here.value ≡ true
  pub is : shape_of here.value ≡ shape

-- the expression that a member is; the values of an array that a member is, each read in one way; and the one element of `arguments`, read so
abbrev pub part : List ℕ → Spot → walk.Walk Expr
part key here = needed key here >>> expression

abbrev pub parts_by : (Spot → walk.Walk Expr) → List ℕ → Spot → walk.Walk (List Expr)
parts_by read key here = needed key here >>> λ list. elements list >>> each (λ _. read) list.at []

abbrev pub argument_by : (Spot → walk.Walk Expr) → Spot → walk.Walk Expr
argument_by read here = parts_by read (codes "arguments") here >>> λ es. walk.Done (sole es)

-- what is no object is a fault, and an object is read by its shape: its parts first, then the name that it holds, then itself
pub record ShapesAreRead : Type 0 where
  pub no_object : (here : Spot) → is_object here.value ≡ false → expression here ≡ wrong here WrongShape
  pub plain : (here : Spot) (e : Expr) → HasShape here (Plain e) → expression here ≡ counted here e
  pub name : (here : Spot) (s : List ℕ) → HasShape here (AName s) → expression here ≡ named here s >>> λ _. counted here (Name s)
  pub negated : (here : Spot) → HasShape here ANot → expression here ≡ part (codes "expr") here >>> λ e. counted here (Not e)
  pub binary : (here : Spot) (op : Op) → HasShape here (ABinary op) → expression here ≡ part (codes "left") here >>> λ l. part (codes "right") here >>> λ r. counted here (Binary op l r)
  pub call : (here : Spot) (s : List ℕ) → HasShape here (ACall s)
      → expression here ≡ parts_by expression (codes "arguments") here >>> λ es. function_at here (function_named s) >>> λ f. counted here (Call f (exprs_of es))
  pub set : (here : Spot) → HasShape here ASet → expression here ≡ parts_by expression (codes "values") here >>> λ es. counted here (Set (exprs_of es))
  pub join : (here : Spot) → HasShape here AJoin → expression here ≡ parts_by expression (codes "values") here >>> λ es. counted here (Join (exprs_of es))
  pub index : (here : Spot) → HasShape here AnIndex → expression here ≡ part (codes "var") here >>> λ e. argument_by expression here >>> λ bit. counted here (Slice e bit bit)
  pub slice : (here : Spot) → HasShape here ASlice
      → expression here ≡ part (codes "var") here >>> λ e. argument_by (part (codes "left")) here >>> λ high. argument_by (part (codes "right")) here >>> λ low. counted here (Slice e high low)

-- ---- the limit on names

-- all numbers of names are taken, and that text has none of them
pub record IsOneTooMany (s : List ℕ) (c : Counts) : Type 0 where
  pub full : length c.held ≡ name_limit
  pub further : list_any (λ held. bytes_eq held s) c.held ≡ false

-- the limit on names is passed at the object that holds the name: at a Name, and at the Call of a function without a meaning
-- of its own, behind the arguments
pub record NamesAreLimited : Type 0 where
  pub name : (here : Spot) (s : List ℕ) (c : Counts) → shape_of here.value ≡ AName s → IsOneTooMany s c
      → gives (expression here) c ≡ Err (record { at = here.at; why = TooMany })
  pub call : (here : Spot) (s : List ℕ) (es : List Expr) (before c : Counts) → shape_of here.value ≡ ACall s → function_named s ≡ Named s
      → gives (needed (codes "arguments") here >>> elements_at reader Itself) before ≡ Ok (es, c) → IsOneTooMany s c
      → gives (expression here) before ≡ Err (record { at = here.at; why = TooMany })
