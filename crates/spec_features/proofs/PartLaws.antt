-- The parts of constraints that are read are no more than the expressions that are counted while they are read.
use Rattle.std.proofs.Common.{◌≡◌, ◌∙◌, sym, ap, refl, ℕ, ◌+◌, ◌≤◌, Bool, true, false, cond, List, [], ◌∷◌, length, map, Option, Some, None, unwrap_or, codes, arith}
use Rattle.std.specs.Prelude.{⊤, ◌&&◌, IfSome, option_map, option_and_then, sum_by, flat_map, nat_lt}
use Rattle.std.proofs.lemmas.List.Sums.{sum_by-append, sum_by-cons}
use Rattle.serde_json.specs.Data.{Data}
use Rattle.spec_walk.specs.Event.{AnExpression, TooMany, Event}
use Rattle.spec_walk.specs.Limits.{from_held}
use Rattle.spec_walk.specs.Walk.{Walk, Done, ◌>>>◌}
use Rattle.spec_walk.specs.Spot.{Spot, root, is_object, an_object, needed, unless, kind, optional, elements, each, named}
use Rattle.spec_walk.specs.Descend.{Inside}
use Rattle.spec_walk.proofs.FirstFaultLaws.{answers-gives}
use Rattle.spec_walk.proofs.CountLaws.{cost, Covers, if_any, covers-gives, covers-then, covers-next, more-before, covers-each, covers-optional, ReaderCovers, covers-elements, unwrapped}
use Rattle.spec_expressions.specs.Expression.{Expr, ExprOf, Not, Binary, Call, Set, Join, Slice, with_names, exprs_of, function_named, op_named}
use Rattle.spec_expressions.specs.Expression as e
use Rattle.serde_json.specs.Find.{get, as_bool, as_number, as_i64}
use Rattle.spec_expressions.specs.Kind as expr
use Rattle.spec_expressions.specs.Kind.{ExprKind, OfBool, OfInteger, OfBits, OfIdentifier, OfUnary, OfBinary, OfFunction, OfSet, OfConcat, OfSquare}
use Rattle.spec_expressions.specs.Shape.{Shape, Plain, AName, ANot, ABinary, ACall, ASet, AJoin, AnIndex, ASlice, text_at, says, name_at, bits_at, has_object, has_objects, the_one, where_so, index_shape, kind_shape, shape_of}
use Rattle.spec_expressions.specs.Reading.{Wanted, Itself, Its, counted, function_at, argument, formed, reader, expression}
use Rattle.spec_features.specs.Features.{ParamKind, ABoolean, AnInteger, AnEnum, Features, param_limit}
use Rattle.spec_features.specs.Kind.{kind_named}
use Rattle.spec_features.specs.Formula.{Connective, connective}
use Rattle.spec_features.specs.Theory as theory
use Rattle.spec_features.specs.Theory.{parts_by}
use Rattle.spec_features.specs.Walk.{constraints, constraints_of, Constrained, param_name, param, features}
use Rattle.spec_features.specs.Laws.{PartsAreCounted}

-- events count expressions
abbrev price : Event → ℕ
price = cost AnExpression

-- ---- an expression

-- its parts, and so many besides
abbrev beside : ℕ → Expr → ℕ
beside m x = theory.parts x + m

pair-covers : (c : Option Connective) (l r m n k : ℕ) → l + m ≤ n → r + n ≤ k → parts_by c l r + m ≤ k + 1
pair-covers (Some c) l r m n k left right = omega (arith, left, right)
pair-covers None l r m n k left right = omega (arith, left, right)

-- an expression that is read without parts is one
abbrev IsSimple : Shape → Type 0
IsSimple (Plain x) = theory.parts x ≡ 1
IsSimple shape = ⊤

counted-covers : (here : Spot) (x : Expr) (m n : ℕ) → theory.parts x ≡ 1 → m ≤ n → Covers price (beside m) n (counted here x)
counted-covers here x m n one le = omega (arith, one, le)

formed-covers : (here : Spot) (inside : Inside Wanted Expr) (shape : Shape) (m : ℕ) → IsSimple shape → ((key : List ℕ) (n : ℕ) → Covers price (beside n) n (inside.part Itself key)) → Covers price (beside m) m (formed here inside shape)
formed-covers here inside (Plain x) m is cover = counted-covers here x m m is (omega arith)
formed-covers here inside (AName s) m is cover = counted-covers here (e.Name s) m (m + 0) refl (omega arith)
formed-covers here inside ANot m is cover =
    covers-then price (beside m) (beside m) m (inside.part Itself (codes "expr")) (λ x. counted here (Not x)) (cover (codes "expr") m) (λ x k le. omega (arith, le))
formed-covers here inside (ABinary op) m is cover =
    covers-then price (beside m) (beside m) m (inside.part Itself (codes "left")) (λ l. inside.part Itself (codes "right") >>> λ r. counted here (Binary op l r)) (cover (codes "left") m)
    (λ l n left. covers-then price (beside n) (beside m) n (inside.part Itself (codes "right")) (λ r. counted here (Binary op l r)) (cover (codes "right") n)
    (λ r k right. pair-covers (connective op) (theory.parts l) (theory.parts r) m n k left right))
formed-covers here inside (ACall s) m is cover =
    covers-next price (beside m) m (inside.parts Itself (codes "arguments")) (λ es. function_at here (function_named s) >>> λ f. counted here (Call f (exprs_of es)))
    (λ es n le. covers-next price (beside m) n (function_at here (function_named s)) (λ f. counted here (Call f (exprs_of es))) (λ f k more. counted-covers here (Call f (exprs_of es)) m k refl (omega (arith, le, more))))
formed-covers here inside ASet m is cover = covers-next price (beside m) m (inside.parts Itself (codes "values")) (λ es. counted here (Set (exprs_of es))) (λ es k le. counted-covers here (Set (exprs_of es)) m k refl le)
formed-covers here inside AJoin m is cover = covers-next price (beside m) m (inside.parts Itself (codes "values")) (λ es. counted here (Join (exprs_of es))) (λ es k le. counted-covers here (Join (exprs_of es)) m k refl le)
formed-covers here inside AnIndex m is cover =
    covers-next price (beside m) m (inside.part Itself (codes "var")) (λ x. argument Itself inside >>> λ bit. counted here (Slice x bit bit))
    (λ x n le. covers-next price (beside m) n (argument Itself inside) (λ bit. counted here (Slice x bit bit)) (λ bit k more. counted-covers here (Slice x bit bit) m k refl (omega (arith, le, more))))
formed-covers here inside ASlice m is cover =
    covers-next price (beside m) m (inside.part Itself (codes "var")) (λ x. argument (Its (codes "left")) inside >>> λ high. argument (Its (codes "right")) inside >>> λ low. counted here (Slice x high low))
    (λ x n le. covers-next price (beside m) n (argument (Its (codes "left")) inside) (λ high. argument (Its (codes "right")) inside >>> λ low. counted here (Slice x high low))
    (λ high k more. covers-next price (beside m) k (argument (Its (codes "right")) inside) (λ low. counted here (Slice x high low))
    (λ low j most. counted-covers here (Slice x high low) m j refl (omega (arith, le, more, most)))))

-- ---- the shape of an object

simple-where : (b : Bool) (shape : Option Shape) → IfSome shape IsSimple → IfSome (where_so b shape) IsSimple
simple-where true shape h = h
simple-where false shape h = tt

simple-map : {A : Type 0} (make : A → Shape) (found : Option A) → ((x : A) → IsSimple (make x)) → IfSome (option_map make found) IsSimple
simple-map make None h = tt
simple-map make (Some x) h = h x

simple-then : {A : Type 0} (make : A → Option Shape) (found : Option A) → ((x : A) → IfSome (make x) IsSimple) → IfSome (option_and_then make found) IsSimple
simple-then make None h = tt
simple-then make (Some x) h = h x

simple-index : (d : Data) → IfSome (index_shape d) IsSimple
simple-index d = go (says (codes "_type") (codes "AST.Slice") d)
  where
    go : (b : Bool) → IfSome (cond b (where_so (has_object (codes "left") d && has_object (codes "right") d) (Some ASlice)) (where_so (is_object d) (Some AnIndex))) IsSimple
    go true = simple-where (has_object (codes "left") d && has_object (codes "right") d) (Some ASlice) tt
    go false = simple-where (is_object d) (Some AnIndex) tt

simple-kind : (k : ExprKind) (d : Data) → IfSome (kind_shape k d) IsSimple
simple-kind OfBool d = simple-map (λ b. Plain (e.Boolean b)) (option_and_then as_bool (get (codes "value") d)) (λ b. refl)
simple-kind OfInteger d = simple-map (λ z. Plain (e.Integer z)) (option_and_then as_i64 (option_and_then as_number (get (codes "value") d))) (λ z. refl)
simple-kind OfBits d = simple-map (λ digits. Plain (e.Bits digits)) (bits_at (codes "value") d) (λ digits. refl)
simple-kind OfIdentifier d = simple-map AName (name_at (codes "value") d) (λ s. tt)
simple-kind OfUnary d = simple-where (says (codes "op") (codes "!") d && has_object (codes "expr") d) (Some ANot) tt
simple-kind OfBinary d =
    simple-where (has_object (codes "left") d && has_object (codes "right") d) (option_map ABinary (option_and_then op_named (text_at (codes "op") d)))
    (simple-map ABinary (option_and_then op_named (text_at (codes "op") d)) (λ op. tt))
simple-kind OfFunction d = simple-where (has_objects (codes "arguments") d) (option_map ACall (name_at (codes "name") d)) (simple-map ACall (name_at (codes "name") d) (λ s. tt))
simple-kind OfSet d = simple-where (has_objects (codes "values") d) (Some ASet) tt
simple-kind OfConcat d = simple-where (has_objects (codes "values") d) (Some AJoin) tt
simple-kind OfSquare d =
    simple-where (has_object (codes "var") d) (option_and_then index_shape (option_and_then the_one (get (codes "arguments") d)))
    (simple-then index_shape (option_and_then the_one (get (codes "arguments") d)) simple-index)

simple-shape : (d : Data) → IsSimple (shape_of d)
simple-shape d =
    or_other (option_and_then (λ k. kind_shape k d) (option_and_then expr.kind_named (text_at (codes "_type") d)))
    (simple-then (λ k. kind_shape k d) (option_and_then expr.kind_named (text_at (codes "_type") d)) (λ k. simple-kind k d))
  where
    or_other : (o : Option Shape) → IfSome o IsSimple → IsSimple (unwrap_or o (Plain e.Other))
    or_other None h = refl
    or_other (Some s) h = h

reader-covers : ReaderCovers price theory.parts reader
reader-covers Itself here inside cover m =
    covers-next price (beside m) m (an_object here) (λ _. formed here inside (shape_of here.value))
    (λ _ k le. more-before price theory.parts m k (formed here inside (shape_of here.value)) le (formed-covers here inside (shape_of here.value) k (simple-shape here.value) (λ key n. cover.part Itself key n)))
reader-covers (Its key) here inside cover m = cover.part Itself key m

-- ---- lists of constraints

abbrev all_parts : List Expr → ℕ
all_parts es = sum_by theory.parts es

abbrev all_beside : ℕ → List Expr → ℕ
all_beside m es = all_parts es + m

abbrev list_walk : Spot → Walk (List Expr)
list_walk list = elements list >>> each (λ (_ : List Expr). expression) list.at []

list-covers : (list : Spot) (m : ℕ) → Covers price (all_beside m) m (list_walk list)
list-covers list m = covers-elements price theory.parts reader reader-covers Itself list m

constraints-covers : (here : Spot) (m : ℕ) → Covers price (all_beside m) m (constraints here)
constraints-covers here m =
    covers-then price (λ found. if_any all_parts found + m) (all_beside m) m (optional (codes "constraints") list_walk here) (λ found. Done (unwrap_or found []))
    (covers-optional price all_parts (codes "constraints") list_walk here m list-covers) (λ found k le. unwrapped theory.parts m k found le)

-- ---- parameters

abbrev own_parts : Constrained → ℕ
own_parts p = all_parts p.1

abbrev own_beside : ℕ → Constrained → ℕ
own_beside m p = own_parts p + m

kept-covers : (k : ParamKind) (here : Spot) (m : ℕ) → Covers price (all_beside m) m (constraints_of k here)
kept-covers ABoolean here m = constraints-covers here m
kept-covers AnInteger here m = omega arith
kept-covers AnEnum here m = omega arith

param-covers : (before : List Constrained) (here : Spot) (m : ℕ) → Covers price (own_beside m) m (param before here)
param-covers before here m =
    covers-next price (own_beside m) m (kind kind_named here) _ (λ kind_is n1 le1.
    covers-next price (own_beside m) n1 (param_name before here >>> named here) _ (λ name n2 le2.
    covers-next price (own_beside m) n2 (unless (nat_lt (length before) param_limit) here TooMany) _ (λ _ n3 le3.
    covers-then price (all_beside n3) (own_beside m) n3 (constraints_of kind_is here) _ (kept-covers kind_is here n3) (λ es n4 le4. omega (arith, le1, le2, le3, le4)))))

abbrev params_beside : ℕ → List Constrained → ℕ
params_beside m found = sum_by own_parts found + m

sum-flat : (found : List Constrained) → sum_by theory.parts (flat_map (λ (p : Constrained). p.1) found) ≡ sum_by own_parts found
sum-flat [] = refl
sum-flat (p ∷ found) = omega (arith, sum-flat found, sum_by-cons own_parts p found, sum_by-append theory.parts p.1 (flat_map (λ (q : Constrained). q.1) found))

abbrev constraint_parts : Features → ℕ
constraint_parts f = all_parts f.constraints

features-covers : (here : Spot) → Covers price constraint_parts 0 (features here)
features-covers here =
    covers-next price constraint_parts 0 (an_object here) _ (λ _ n1 le1.
    covers-next price constraint_parts n1 (needed (codes "parameters") here) _ (λ list n2 le2.
    covers-then price (params_beside n2) constraint_parts n2 (elements list >>> each param list.at []) _
    (covers-next price (params_beside n2) n2 (elements list) (each param list.at []) (λ ds k le. covers-each price own_parts param list.at [] ds n2 k param-covers (omega (arith, le)))) (λ found n3 le3.
    covers-then price (all_beside n3) constraint_parts n3 (constraints here) _ (constraints-covers here n3)
    (λ own n4 le4. omega (arith, le3, le4, sum-flat found, sum_by-append theory.parts (flat_map (λ (p : Constrained). p.1) found) own)))))

pub parts_are_counted : PartsAreCounted
parts_are_counted held d f c is = omega (arith, covers-gives AnExpression constraint_parts 0 (features (root d)) (from_held held) c f (features-covers (root d)) (sym (answers-gives (features (root d)) (from_held held)) ∙ is))

-- ---- parts of constraints, whatever names are

some_parts : {N : Type 0} (x : ExprOf N) → 1 ≤ theory.parts x
some_parts (Not x) = omega arith
some_parts (Binary op l r) = go (connective op)
  where
    go : (c : Option Connective) → 1 ≤ parts_by c (theory.parts l) (theory.parts r)
    go (Some c) = omega arith
    go None = omega arith
some_parts x = omega arith

-- each constraint is one part at least
pub parts_enough : {N : Type 0} (es : List (ExprOf N)) → length es ≤ sum_by theory.parts es
parts_enough [] = omega arith
parts_enough (x ∷ es) = omega (arith, some_parts x, parts_enough es, sum_by-cons theory.parts x es)

parts-named : {M N : Type 0} (f : M → N) (x : ExprOf M) → theory.parts (with_names f x) ≡ theory.parts x
parts-named f (Not x) = ap (λ n. n + 1) (parts-named f x)
parts-named f (Binary op l r) = ap (λ n. parts_by (connective op) n (theory.parts (with_names f r))) (parts-named f l) ∙ ap (parts_by (connective op) (theory.parts l)) (parts-named f r)
parts-named f x = refl

-- other names leave the parts as many
pub all_parts-named : {M N : Type 0} (f : M → N) (es : List (ExprOf M)) → sum_by theory.parts (map (with_names f) es) ≡ sum_by theory.parts es
all_parts-named f [] = refl
all_parts-named f (x ∷ es) = omega (arith, parts-named f x, all_parts-named f es, sum_by-cons theory.parts x es, sum_by-cons theory.parts (with_names f x) (map (with_names f) es))
