-- Each object is read as an expression: what its shape asks for is there.
use Rattle.std.proofs.Common.{◌≡◌, refl, List, [], ◌∷◌, ◌++◌, length, Bool, true, false, ◌&&◌, Option, Some, None, option_map, option_and_then, unwrap_or, is_some, IfSome, codes, Ordering, Less, Equal, Greater}
use Rattle.std.specs.Prelude.{⊤, ℕ, if◌then◌else◌}
use Rattle.std.specs.Ordering.{nat_cmp, match_ordering}
use Rattle.std.specs.Cmp.Lexicographic.{slice_cmp}
use Rattle.serde_json.specs.Data.{Data, null, boolean, number, string, array, object, Items, no_items, item, Members, no_members, member}
use Rattle.serde_json.specs.Find.{get, get_member, as_bool, as_number, as_i64}
use Rattle.spec_walk.specs.Pointer.{under, element}
use Rattle.spec_walk.specs.Walk as walk
use Rattle.spec_walk.specs.Walk.{Walk, Done, Stop, Meet, ◌>>>◌}
use Rattle.spec_walk.specs.Spot.{Spot, spot, is_object}
use Rattle.spec_walk.specs.Descend.{Inside, descend, part, parts, optional_parts, listed, several}
use Rattle.spec_expressions.specs.Expression.{Expr, Boolean, Integer, Bits, op_named, Function, UInt, IsZero, IsOnes, IsFeatureImplemented, Named, Other, function_named}
use Rattle.spec_expressions.specs.Kind.{ExprKind, OfBool, OfInteger, OfBits, OfIdentifier, OfUnary, OfBinary, OfFunction, OfSet, OfConcat, OfSquare, kind_named}
use Rattle.spec_expressions.specs.Shape.{Shape, Plain, AName, ANot, ABinary, ACall, ASet, AJoin, AnIndex, ASlice, has_object, has_objects, are_objects, is_array_of_objects, says, the_one, where_so, index_shape, kind_shape, text_at, name_at, bits_at, shape_of}
use Rattle.spec_expressions.specs.Reading.{Wanted, Itself, Its, function_at, argument, formed, reader, expression}
use Rattle.spec_expressions.specs.Laws.{EachObjectIsOne}

-- ---- walks that end with a value

abbrev pub Ends : {A : Type 0} → Walk A → Type 0
Ends w = is_some (walk.value w) ≡ true

ends-then : {A B : Type 0} (w : Walk A) (next : A → Walk B) → Ends w → ((x : A) → Ends (next x)) → Ends (w >>> next)
ends-then (Done x) next e later = later x
ends-then (Stop f) next e later = absurd cc
ends-then (Meet m w) next e later = ends-then w next e later

-- ---- what is asked for

-- a value at which what is wanted can be read, and an array of such
abbrev fits : Wanted → Data → Bool
fits Itself d = is_object d
fits (Its key) d = has_object key d

abbrev all_fit : Wanted → Items → Bool
all_fit wanted no_items = true
all_fit wanted (item d ds) = fits wanted d && all_fit wanted ds

abbrev array_fits : Wanted → Data → Bool
array_fits wanted (array ds) = all_fit wanted ds
array_fits wanted d = false

abbrev Has : (Data → Bool) → Option Data → Type 0
Has test found = unwrap_or (option_map test found) false ≡ true

-- what is asked for inside ends where it is there
record AllEnd (d : Data) (inside : Inside Wanted Expr) : Type 0 where
  part : (wanted : Wanted) (key : List ℕ) → Has (fits wanted) (get key d) → Ends (inside.part wanted key)
  parts : (wanted : Wanted) (key : List ℕ) → Has (array_fits wanted) (get key d) → Ends (inside.parts wanted key)

-- what a shape asks for
abbrev Asks : Shape → Data → Type 0
Asks (Plain e) d = ⊤
Asks (AName s) d = ⊤
Asks ANot d = Has (fits Itself) (get (codes "expr") d)
Asks (ABinary op) d = Has (fits Itself) (get (codes "left") d) × Has (fits Itself) (get (codes "right") d)
Asks (ACall s) d = Has (array_fits Itself) (get (codes "arguments") d)
Asks ASet d = Has (array_fits Itself) (get (codes "values") d)
Asks AJoin d = Has (array_fits Itself) (get (codes "values") d)
Asks AnIndex d = Has (fits Itself) (get (codes "var") d) × Has (array_fits Itself) (get (codes "arguments") d)
Asks ASlice d = Has (fits Itself) (get (codes "var") d) × Has (array_fits (Its (codes "left"))) (get (codes "arguments") d) × Has (array_fits (Its (codes "right"))) (get (codes "arguments") d)

ends-function : (here : Spot) (f : Function) → Ends (function_at here f)
ends-function here UInt = refl
ends-function here IsZero = refl
ends-function here IsOnes = refl
ends-function here IsFeatureImplemented = refl
ends-function here (Named s) = refl

ends-argument : (wanted : Wanted) (inside : Inside Wanted Expr) → Ends (inside.parts wanted (codes "arguments")) → Ends (argument wanted inside)
ends-argument wanted inside e = ends-then (inside.parts wanted (codes "arguments")) _ e (λ es. refl)

ends-formed : (here : Spot) (d : Data) (inside : Inside Wanted Expr) (shape : Shape) → AllEnd d inside → Asks shape d → Ends (formed here inside shape)
ends-formed here d inside (Plain e) all asks = refl
ends-formed here d inside (AName s) all asks = refl
ends-formed here d inside ANot all asks = ends-then (inside.part Itself (codes "expr")) _ (all.part Itself (codes "expr") asks) (λ e. refl)
ends-formed here d inside (ABinary op) all asks =
    ends-then (inside.part Itself (codes "left")) _ (all.part Itself (codes "left") asks.0)
    (λ l. ends-then (inside.part Itself (codes "right")) _ (all.part Itself (codes "right") asks.1) (λ r. refl))
ends-formed here d inside (ACall s) all asks =
    ends-then (inside.parts Itself (codes "arguments")) _ (all.parts Itself (codes "arguments") asks)
    (λ es. ends-then (function_at here (function_named s)) _ (ends-function here (function_named s)) (λ f. refl))
ends-formed here d inside ASet all asks = ends-then (inside.parts Itself (codes "values")) _ (all.parts Itself (codes "values") asks) (λ es. refl)
ends-formed here d inside AJoin all asks = ends-then (inside.parts Itself (codes "values")) _ (all.parts Itself (codes "values") asks) (λ es. refl)
ends-formed here d inside AnIndex all asks =
    ends-then (inside.part Itself (codes "var")) _ (all.part Itself (codes "var") asks.0)
    (λ e. ends-then (argument Itself inside) _ (ends-argument Itself inside (all.parts Itself (codes "arguments") asks.1)) (λ bit. refl))
ends-formed here d inside ASlice all asks =
    ends-then (inside.part Itself (codes "var")) _ (all.part Itself (codes "var") asks.0)
    (λ e. ends-then (argument (Its (codes "left")) inside) _ (ends-argument (Its (codes "left")) inside (all.parts (Its (codes "left")) (codes "arguments") asks.1))
    (λ high. ends-then (argument (Its (codes "right")) inside) _ (ends-argument (Its (codes "right")) inside (all.parts (Its (codes "right")) (codes "arguments") asks.2)) (λ low. refl)))

-- ---- a shape is one whose parts are there

and-left : (a b : Bool) → (a && b) ≡ true → a ≡ true
and-left true b e = refl
and-left false b e = absurd cc

and-right : (a b : Bool) → (a && b) ≡ true → b ≡ true
and-right true b e = e
and-right false b e = absurd cc

objects-fit : (ds : Items) → are_objects ds ≡ true → all_fit Itself ds ≡ true
objects-fit no_items e = refl
objects-fit (item d ds) e = rw (and-left (is_object d) (are_objects ds) e) (objects-fit ds (and-right (is_object d) (are_objects ds) e))

array-fits : (found : Option Data) → unwrap_or (option_map is_array_of_objects found) false ≡ true → Has (array_fits Itself) found
array-fits None e = absurd cc
array-fits (Some (array ds)) e = objects-fit ds e
array-fits (Some null) e = absurd cc
array-fits (Some (boolean b)) e = absurd cc
array-fits (Some (number n)) e = absurd cc
array-fits (Some (string s)) e = absurd cc
array-fits (Some (object ms)) e = absurd cc

where-so : (P : Shape → Type 0) (test : Bool) (shape : Option Shape) → (test ≡ true → IfSome shape P) → IfSome (where_so test shape) P
where-so P true shape h = h refl
where-so P false shape h = tt

mapped : {A : Type 0} (P : Shape → Type 0) (f : A → Shape) (found : Option A) → ((x : A) → P (f x)) → IfSome (option_map f found) P
mapped P f None h = tt
mapped P f (Some x) h = h x

-- the shape that an argument gives asks for what is there
abbrev IndexAsks : Shape → Option Data → Type 0
IndexAsks (Plain e) found = ⊥
IndexAsks (AName s) found = ⊥
IndexAsks ANot found = ⊥
IndexAsks (ABinary op) found = ⊥
IndexAsks (ACall s) found = ⊥
IndexAsks ASet found = ⊥
IndexAsks AJoin found = ⊥
IndexAsks AnIndex found = Has (array_fits Itself) found
IndexAsks ASlice found = Has (array_fits (Its (codes "left"))) found × Has (array_fits (Its (codes "right"))) found

and-true : (a : Bool) → a ≡ true → (a && true) ≡ true
and-true true e = refl
and-true false e = absurd cc

index-asks : (d : Data) → IfSome (index_shape d) (λ s. IndexAsks s (Some (array (item d no_items))))
index-asks d = go (says (codes "_type") (codes "AST.Slice") d)
  where
    go : (b : Bool) → IfSome (if b then where_so (has_object (codes "left") d && has_object (codes "right") d) (Some ASlice) else where_so (is_object d) (Some AnIndex)) (λ s. IndexAsks s (Some (array (item d no_items))))
    go true =
        where-so (λ s. IndexAsks s (Some (array (item d no_items)))) (has_object (codes "left") d && has_object (codes "right") d) (Some ASlice)
        (λ e. (and-true (has_object (codes "left") d) (and-left (has_object (codes "left") d) (has_object (codes "right") d) e), and-true (has_object (codes "right") d) (and-right (has_object (codes "left") d) (has_object (codes "right") d) e)))
    go false = where-so (λ s. IndexAsks s (Some (array (item d no_items)))) (is_object d) (Some AnIndex) (λ e. and-true (is_object d) e)

argument-asks : (found : Option Data) → IfSome (option_and_then index_shape (option_and_then the_one found)) (λ s. IndexAsks s found)
argument-asks (Some (array (item d no_items))) = index-asks d
argument-asks found = tt

square-asks : (d : Data) (s : Shape) → Has (fits Itself) (get (codes "var") d) → IndexAsks s (get (codes "arguments") d) → Asks s d
square-asks d AnIndex var asks = (var, asks)
square-asks d ASlice var asks = (var, asks.0, asks.1)
square-asks d s var asks = absurd asks

some-weaker : (P Q : Shape → Type 0) (found : Option Shape) → ((s : Shape) → P s → Q s) → IfSome found P → IfSome found Q
some-weaker P Q None is h = tt
some-weaker P Q (Some s) is h = is s h

sides-asks : (d : Data) → (has_object (codes "left") d && has_object (codes "right") d) ≡ true → Has (fits Itself) (get (codes "left") d) × Has (fits Itself) (get (codes "right") d)
sides-asks d e = (and-left (has_object (codes "left") d) (has_object (codes "right") d) e, and-right (has_object (codes "left") d) (has_object (codes "right") d) e)

kind-asks : (k : ExprKind) (d : Data) → IfSome (kind_shape k d) (λ s. Asks s d)
kind-asks OfBool d = mapped (λ s. Asks s d) (λ b. Plain (Boolean b)) (option_and_then as_bool (get (codes "value") d)) (λ b. tt)
kind-asks OfInteger d = mapped (λ s. Asks s d) (λ z. Plain (Integer z)) (option_and_then as_i64 (option_and_then as_number (get (codes "value") d))) (λ z. tt)
kind-asks OfBits d = mapped (λ s. Asks s d) (λ digits. Plain (Bits digits)) (bits_at (codes "value") d) (λ digits. tt)
kind-asks OfIdentifier d = mapped (λ s. Asks s d) AName (name_at (codes "value") d) (λ s. tt)
kind-asks OfUnary d =
    where-so (λ s. Asks s d) (says (codes "op") (codes "!") d && has_object (codes "expr") d) (Some ANot)
    (λ e. and-right (says (codes "op") (codes "!") d) (has_object (codes "expr") d) e)
kind-asks OfBinary d =
    where-so (λ s. Asks s d) (has_object (codes "left") d && has_object (codes "right") d) (option_map ABinary (option_and_then op_named (text_at (codes "op") d)))
    (λ e. mapped (λ s. Asks s d) ABinary (option_and_then op_named (text_at (codes "op") d)) (λ op. sides-asks d e))
kind-asks OfFunction d =
    where-so (λ s. Asks s d) (has_objects (codes "arguments") d) (option_map ACall (name_at (codes "name") d))
    (λ e. mapped (λ s. Asks s d) ACall (name_at (codes "name") d) (λ s. array-fits (get (codes "arguments") d) e))
kind-asks OfSet d = where-so (λ s. Asks s d) (has_objects (codes "values") d) (Some ASet) (array-fits (get (codes "values") d))
kind-asks OfConcat d = where-so (λ s. Asks s d) (has_objects (codes "values") d) (Some AJoin) (array-fits (get (codes "values") d))
kind-asks OfSquare d =
    where-so (λ s. Asks s d) (has_object (codes "var") d) (option_and_then index_shape (option_and_then the_one (get (codes "arguments") d)))
    (λ e. some-weaker (λ s. IndexAsks s (get (codes "arguments") d)) (λ s. Asks s d) (option_and_then index_shape (option_and_then the_one (get (codes "arguments") d)))
    (λ s asks. square-asks d s e asks) (argument-asks (get (codes "arguments") d)))

kinds-ask : (k : Option ExprKind) (d : Data) → IfSome (option_and_then (λ k. kind_shape k d) k) (λ s. Asks s d)
kinds-ask None d = tt
kinds-ask (Some k) d = kind-asks k d

or-other : (d : Data) (shape : Option Shape) → IfSome shape (λ s. Asks s d) → Asks (unwrap_or shape (Plain Other)) d
or-other d None asks = tt
or-other d (Some s) asks = asks

shape-asks : (d : Data) → Asks (shape_of d) d
shape-asks d = or-other d (option_and_then (λ k. kind_shape k d) (option_and_then kind_named (text_at (codes "_type") d))) (kinds-ask (option_and_then kind_named (text_at (codes "_type") d)) d)

-- ---- down the members and elements

found-ends : (test : Data → Bool) (o : Ordering) (d : Data) (found : Option Data) {A : Type 0} (here rest : Walk A) → Has test (match_ordering o found (Some d) found) → (test d ≡ true → Ends here) → (Has test found → Ends rest)
    → Ends (match_ordering o rest here rest)
found-ends test Less d found here rest has h r = r has
found-ends test Equal d found here rest has h r = h has
found-ends test Greater d found here rest has h r = r has

abbrev inside_at : List ℕ → Members → Inside Wanted Expr
inside_at at ms = record { part = λ f key. part reader f key at ms; parts = λ f key. parts reader f key at ms; optional_parts = λ f key. optional_parts reader f key at ms }

mutual
  ends-descend : (wanted : Wanted) (at : List ℕ) (d : Data) → fits wanted d ≡ true → Ends (descend reader wanted at d)
  ends-descend Itself at (object ms) e =
      ends-formed (spot at (object ms)) (object ms) (inside_at at ms) (shape_of (object ms)) (record { part = λ wanted key has. ends-part wanted key at ms has; parts = λ wanted key has. ends-parts wanted key at ms has }) (shape-asks (object ms))
  ends-descend (Its key) at (object ms) e = ends-part Itself key at ms e
  ends-descend Itself at null e = absurd cc
  ends-descend Itself at (boolean b) e = absurd cc
  ends-descend Itself at (number n) e = absurd cc
  ends-descend Itself at (string s) e = absurd cc
  ends-descend Itself at (array ds) e = absurd cc
  ends-descend (Its key) at null e = absurd cc
  ends-descend (Its key) at (boolean b) e = absurd cc
  ends-descend (Its key) at (number n) e = absurd cc
  ends-descend (Its key) at (string s) e = absurd cc
  ends-descend (Its key) at (array ds) e = absurd cc

  ends-part : (wanted : Wanted) (key at : List ℕ) (ms : Members) → Has (fits wanted) (get_member key ms) → Ends (part reader wanted key at ms)
  ends-part wanted key at no_members has = absurd cc
  ends-part wanted key at (member k d ms) has =
      found-ends (fits wanted) (slice_cmp nat_cmp key k) d (get_member key ms) (descend reader wanted (under at key) d) (part reader wanted key at ms) has
      (λ e. ends-descend wanted (under at key) d e) (λ h. ends-part wanted key at ms h)

  ends-parts : (wanted : Wanted) (key at : List ℕ) (ms : Members) → Has (array_fits wanted) (get_member key ms) → Ends (parts reader wanted key at ms)
  ends-parts wanted key at no_members has = absurd cc
  ends-parts wanted key at (member k d ms) has =
      found-ends (array_fits wanted) (slice_cmp nat_cmp key k) d (get_member key ms) (listed reader wanted (under at key) d) (parts reader wanted key at ms) has
      (λ e. ends-listed wanted (under at key) d e) (λ h. ends-parts wanted key at ms h)

  ends-listed : (wanted : Wanted) (at : List ℕ) (d : Data) → array_fits wanted d ≡ true → Ends (listed reader wanted at d)
  ends-listed wanted at (array ds) e = ends-several wanted at [] ds e
  ends-listed wanted at null e = absurd cc
  ends-listed wanted at (boolean b) e = absurd cc
  ends-listed wanted at (number n) e = absurd cc
  ends-listed wanted at (string s) e = absurd cc
  ends-listed wanted at (object ms) e = absurd cc

  ends-several : (wanted : Wanted) (at : List ℕ) (before : List Expr) (ds : Items) → all_fit wanted ds ≡ true → Ends (several reader wanted at before ds)
  ends-several wanted at before no_items e = refl
  ends-several wanted at before (item d ds) e =
      ends-then (descend reader wanted (element at (length before)) d) (λ x. several reader wanted at (before ++ x ∷ []) ds)
      (ends-descend wanted (element at (length before)) d (and-left (fits wanted d) (all_fit wanted ds) e))
      (λ x. ends-several wanted at (before ++ x ∷ []) ds (and-right (fits wanted d) (all_fit wanted ds) e))

pub each_object_is_one : EachObjectIsOne
each_object_is_one here = go here.at here.value
  where
    go : (at : List ℕ) (d : Data) → is_some (walk.value (expression (spot at d))) ≡ is_object d
    go at (object ms) = ends-descend Itself at (object ms) refl
    go at null = refl
    go at (boolean b) = refl
    go at (number n) = refl
    go at (string s) = refl
    go at (array ds) = refl
