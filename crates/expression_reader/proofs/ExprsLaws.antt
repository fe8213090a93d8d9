-- Laws of expressions that are read.
use Rattle.std.proofs.Common.{◌≡◌, ◌∙◌, sym, ap, subst, refl, ℕ, ◌+◌, ◌-◌, ◌<◌, ◌≤◌, List, [], ◌∷◌, ◌++◌, length, get_or, take, map, append_assoc, append-nil, length-append, Option, Some, None, Result, Ok, Err, All, codes, arith}
use Rattle.std.specs.Prelude.{option_and_then, option_map, slice_range}
use Rattle.std.proofs.Math.Seq.{take-length}
use Rattle.std.proofs.lemmas.List.{get_or_append_left, get_or-map, map_push, length-map, drop-append-le, drop_all}
use Rattle.std.proofs.lemmas.List.Elements.{All-head, All-tail, All-push}
use Rattle.serde_json.specs.Data.{Data, null, boolean, number, string, array, object, no_items, item, depth}
use Rattle.serde_json.specs.Find.{get}
use Rattle.serde_json.specs.View.{view, items_view}
use Rattle.serde_json.specs.declared.value.Value.{Value}
use Rattle.spec_walk.specs.Pointer.{element}
use Rattle.spec_walk.specs.Event.{Fault, Name, AnExpression, Missing}
use Rattle.spec_walk.specs.Limits.{Counts, after, ◌>>=◌}
use Rattle.spec_walk.specs.Walk.{Walk, Done, Stop, Meet, ◌>>>◌, gives}
use Rattle.spec_walk.specs.Spot.{Spot, spot, an_object, named, needed, needs, below, one_more, elements, each}
use Rattle.spec_walk.specs.Descend.{inside_of, at_spot, elements_at}
use Rattle.spec_walk.proofs.WalkLaws.{gives-next, then-assoc}
use Rattle.spec_walk.proofs.DescendLaws.{then-same}
use Rattle.spec_expressions.specs.Expression as e
use Rattle.spec_expressions.specs.Expression.{Expr, ExprsOf, Op, Function, exprs_of, function_named}
use Rattle.spec_expressions.specs.Shape.{Shape, ANot, ABinary, ACall, ASet, AJoin, AnIndex, ASlice, shape_of, the_one}
use Rattle.spec_expressions.specs.Reading.{Wanted, Itself, Its, counted, function_at, sole, argument, reader, expression}
use Rattle.spec_expressions.proofs.FormLaws.{expression-formed, member-formed}
use Rattle.mrs_names.specs.Texts.{IsExtended}
use Rattle.mrs_names.proofs.PlaceLaws.{IsExtended-trans}
use Rattle.mrs_arena.specs.Expressions.{expr_at, list_in, with_list}
use Rattle.mrs_arena.specs.declared.expr.ExprList.{ExprList}
use Rattle.mrs_arena.specs.declared.expr_id.ExprId.{ExprId}
use Rattle.expr_shape.specs.Shapes.{IsArgument}
use Rattle.expr_shape.proofs.TextLaws.{differs}
use Rattle.mrs_walk.specs.Gives.{Fails, Ends, Puts}
use Rattle.mrs_walk.specs.declared.fault.ReadFault.{ReadFault}
use Rattle.mrs_walk.specs.declared.fault.ReadFault.TheVariants.{Schema, NoMemory}
use Rattle.mrs_walk.proofs.AnswerLaws.{Fails-then, Fails-same, Puts-same, Puts-then, Puts-last}
use Rattle.mrs_walk.proofs.DepthLaws.{needed_shallower}
use Rattle.mrs_walk.proofs.EachLaws.{EachRead, EachRead-next, EachRead-fails, EachRead-all}
use Rattle.schema_draft.specs.Drafted.{Drafted, counts, nothing}
use Rattle.expression_reader.specs.ExprsRead.{formed_at, part, parts, Grows, IsRead, AreRead, IsListRead}

-- ---- the walk of an expression whose shape is known

pub expression_is : (here : Spot) (shape : Shape) → an_object here ≡ Done tt → shape ≡ shape_of here.value → expression here ≡ formed_at shape here
expression_is here shape is_one is = expression-formed here ∙ ap (λ (w : Walk Unit). w >>> λ _. formed_at (shape_of here.value) here) is_one ∙ ap (λ s. formed_at s here) (sym is)

pub formed_returns : {T : Type 0} (r : Result T ReadFault) (here : Spot) (shape : Shape) (c d : Counts) (P : Expr → T → Type 0) → an_object here ≡ Done tt → shape ≡ shape_of here.value → Puts r (formed_at shape here) c d P → Puts r (expression here) c d P
formed_returns r here shape c d P is_one is h = Puts-same r _ _ c d P (expression_is here shape is_one is) h

-- ---- what was put

pub Grows-none : (d : Drafted) → Grows d d 0
Grows-none d = record { more = []; exprs = sym (append-nil d.exprs); free = omega arith }

pub Grows-trans : {old mid new : Drafted} {m n : ℕ} → Grows old mid m → Grows mid new n → Grows old new (m + n)
Grows-trans {old} {mid} {new} {m} {n} g h = record {
  more = g.more ++ h.more;
  exprs = h.exprs ∙ ap (λ es. es ++ h.more) g.exprs ∙ append_assoc old.exprs g.more h.more;
  free = omega (arith, g.free, h.free);
}

pub Grows-weaker : {old new : Drafted} {n : ℕ} (m : ℕ) → m ≤ n → Grows old new n → Grows old new m
Grows-weaker m less g = record { more = g.more; exprs = g.exprs; free = omega (arith, g.free) }

-- names take no part
pub Grows-named : {old mid new : Drafted} {n : ℕ} → Grows old mid n → new.exprs ≡ mid.exprs → new.parts ≡ mid.parts → Grows old new n
Grows-named {old} {mid} {new} {n} g exprs parts = record { more = g.more; exprs = exprs ∙ g.exprs; free = omega (arith, g.free, ap length exprs, ap length parts) }

-- what was put stays
at-more : (xs more : List Expr) (k : ℕ) → k < length xs → expr_at (xs ++ more) k ≡ expr_at xs k
at-more xs more k within = get_or_append_left xs more e.Other k within

at-last : (xs : List Expr) (x : Expr) → expr_at (xs ++ x ∷ []) (length xs) ≡ x
at-last [] x = refl
at-last (y ∷ xs) x = at-last xs x

pub IsRead-later : {old mid new : Drafted} {x : Expr} {k n : ℕ} → IsRead old mid x k → Grows mid new n → (k < length new.exprs) × (expr_at new.exprs k ≡ x)
IsRead-later {old} {mid} {new} {x} {k} r g = (
  omega (arith, r.within, ap length g.exprs, length-append mid.exprs g.more),
  ap (λ xs. expr_at xs k) g.exprs ∙ at-more mid.exprs g.more k r.within ∙ r.stands,
)

-- one more expression
abbrev pub Pushed : Drafted → Drafted → Expr → ℕ → Type 0
Pushed mid new x id = (id ≡ length mid.exprs) × (new.exprs ≡ mid.exprs ++ x ∷ [])

pushed_read : (old mid new : Drafted) (made x : Expr) (id : ℕ) → Grows old mid 0 → made ≡ x → new.parts ≡ mid.parts → Pushed mid new made id → IsRead old new x id
pushed_read old mid new made x id g is same p =
    let count = length-append mid.exprs (made ∷ []) in
    let size = ap length p.1 in record {
      grows = record {
        more = g.more ++ made ∷ [];
        exprs = p.1 ∙ ap (λ es. es ++ made ∷ []) g.exprs ∙ append_assoc old.exprs g.more (made ∷ []);
        free = omega (arith, g.free, count, size, ap length same);
      };
      within = omega (arith, p.0, count, size);
      stands = ap (λ es. expr_at es id) p.1 ∙ ap (expr_at (mid.exprs ++ made ∷ [])) p.0 ∙ at-last mid.exprs made ∙ is;
    }

-- an expression is counted once its parts are read
pub counted_returns : {T : Type 0} (r : Result T ReadFault) (number_of : T → ℕ) (here : Spot) (old mid new : Drafted) (made x : Expr) → Grows old mid 0 → made ≡ x → new.parts ≡ mid.parts
    → Puts r (one_more AnExpression here) (counts mid) (counts new) (λ _ id. Pushed mid new made (number_of id)) → Puts r (counted here x) (counts mid) (counts new) (λ y id. IsRead old new y (number_of id))
counted_returns r number_of here old mid new made x g is same h = Puts-last r (one_more AnExpression here) (λ _. x) (counts mid) (counts new) _ _ (λ a id p. pushed_read old mid new made x (number_of id) g is same p) h

-- what a walk gives with the counts behind it
given : {A : Type 0} (x y : A) (c d : Counts) (r : Result (A × Counts) Fault) → r ≡ Ok (x, c) → r ≡ Ok (y, d) → (x ≡ y) × (c ≡ d)
given {A} x y c d r one two = let same : ◌≡◌ {A = A × Counts} (x, c) (y, d) = cc in (ap (λ p. p.0) same, ap (λ p. p.1) same)

-- a name is its text
pub named_value : (here : Spot) (text name : List ℕ) (c d : Counts) → gives (named here text) c ≡ Ok (name, d) → name ≡ text
named_value here text name c d h = go (after (Name here.at text) c) h
  where
    go : (r : Result Counts Fault) → (r >>= gives (Done text)) ≡ Ok (name, d) → name ≡ text
    go (Ok b) h = sym (given text name b d (Ok (text, b)) refl h).0
    go (Err f) h = absurd cc

-- ---- parts

abbrev pub PartRead : List ℕ → Spot → Drafted → Drafted → ℕ → Type 0
PartRead key here old mid k = Ends (part key here) (counts old) (counts mid) (λ x. IsRead old mid x k)

pub not_returns : {T : Type 0} (r : Result T ReadFault) (number_of : T → ℕ) (here : Spot) (old mid new : Drafted) (k : ℕ) → PartRead (codes "expr") here old mid k → new.parts ≡ mid.parts
    → Puts r (one_more AnExpression here) (counts mid) (counts new) (λ _ id. Pushed mid new (e.Not (expr_at mid.exprs k)) (number_of id)) → Puts r (formed_at ANot here) (counts old) (counts new) (λ y id. IsRead old new y (number_of id))
not_returns r number_of here old mid new k p same h =
    Puts-then r (part (codes "expr") here) (λ x. counted here (e.Not x)) p.value (counts old) (counts mid) (counts new) _ p.walked
    (counted_returns r number_of here old mid new (e.Not (expr_at mid.exprs k)) (e.Not p.value) (Grows-weaker 0 (omega arith) p.stands.grows) (ap e.Not p.stands.stands) same h)

pub binary_returns : {T : Type 0} (r : Result T ReadFault) (number_of : T → ℕ) (here : Spot) (op : Op) (old one two new : Drafted) (j k : ℕ) → PartRead (codes "left") here old one j → PartRead (codes "right") here one two k → new.parts ≡ two.parts
    → Puts r (one_more AnExpression here) (counts two) (counts new) (λ _ id. Pushed two new (e.Binary op (expr_at two.exprs j) (expr_at two.exprs k)) (number_of id)) → Puts r (formed_at (ABinary op) here) (counts old) (counts new) (λ y id. IsRead old new y (number_of id))
binary_returns r number_of here op old one two new j k p q same h =
    let left = IsRead-later p.stands q.stands.grows in
    Puts-then r (part (codes "left") here) (λ l. part (codes "right") here >>> λ x. counted here (e.Binary op l x)) p.value (counts old) (counts one) (counts new) _ p.walked
    (Puts-then r (part (codes "right") here) (λ x. counted here (e.Binary op p.value x)) q.value (counts one) (counts two) (counts new) _ q.walked
    (counted_returns r number_of here old two new (e.Binary op (expr_at two.exprs j) (expr_at two.exprs k)) (e.Binary op p.value q.value) (Grows-weaker 0 (omega arith) (Grows-trans p.stands.grows q.stands.grows))
    (ap (λ x. e.Binary op x (expr_at two.exprs k)) left.1 ∙ ap (e.Binary op p.value) q.stands.stands) same h))

-- ---- lists

abbrev pub ListRead : List ℕ → Spot → Drafted → Drafted → ExprList → Type 0
ListRead key here old mid list = Ends (parts key here) (counts old) (counts mid) (λ es. IsListRead old mid es list)

pub set_returns : {T : Type 0} (r : Result T ReadFault) (number_of : T → ℕ) (here : Spot) (old mid new : Drafted) (list : ExprList) → ListRead (codes "values") here old mid list → new.parts ≡ mid.parts
    → Puts r (one_more AnExpression here) (counts mid) (counts new) (λ _ id. Pushed mid new (e.Set (list_in (expr_at mid.exprs) mid.parts list)) (number_of id)) → Puts r (formed_at ASet here) (counts old) (counts new) (λ y id. IsRead old new y (number_of id))
set_returns r number_of here old mid new list p same h =
    Puts-then r (parts (codes "values") here) (λ es. counted here (e.Set (exprs_of es))) p.value (counts old) (counts mid) (counts new) _ p.walked
    (counted_returns r number_of here old mid new _ (e.Set (exprs_of p.value)) p.stands.grows (ap e.Set p.stands.stands) same h)

pub join_returns : {T : Type 0} (r : Result T ReadFault) (number_of : T → ℕ) (here : Spot) (old mid new : Drafted) (list : ExprList) → ListRead (codes "values") here old mid list → new.parts ≡ mid.parts
    → Puts r (one_more AnExpression here) (counts mid) (counts new) (λ _ id. Pushed mid new (e.Join (list_in (expr_at mid.exprs) mid.parts list)) (number_of id)) → Puts r (formed_at AJoin here) (counts old) (counts new) (λ y id. IsRead old new y (number_of id))
join_returns r number_of here old mid new list p same h =
    Puts-then r (parts (codes "values") here) (λ es. counted here (e.Join (exprs_of es))) p.value (counts old) (counts mid) (counts new) _ p.walked
    (counted_returns r number_of here old mid new _ (e.Join (exprs_of p.value)) p.stands.grows (ap e.Join p.stands.stands) same h)

-- a call: its function is read behind its arguments
pub call_returns : {T : Type 0} (r : Result T ReadFault) (number_of : T → ℕ) (here : Spot) (name : List ℕ) (old one two new : Drafted) (list : ExprList) (f g : Function) → ListRead (codes "arguments") here old one list
    → gives (function_at here (function_named name)) (counts one) ≡ Ok (f, counts two) → g ≡ f → two.exprs ≡ one.exprs → two.parts ≡ one.parts → new.parts ≡ two.parts
    → Puts r (one_more AnExpression here) (counts two) (counts new) (λ _ id. Pushed two new (e.Call g (list_in (expr_at two.exprs) two.parts list)) (number_of id)) → Puts r (formed_at (ACall name) here) (counts old) (counts new) (λ y id. IsRead old new y (number_of id))
call_returns r number_of here name old one two new list f g p walked is exprs same_parts same h =
    Puts-then r (parts (codes "arguments") here) (λ es. function_at here (function_named name) >>> λ f. counted here (e.Call f (exprs_of es))) p.value (counts old) (counts one) (counts new) _ p.walked
    (Puts-then r (function_at here (function_named name)) (λ f. counted here (e.Call f (exprs_of p.value))) f (counts one) (counts two) (counts new) _ walked
    (counted_returns r number_of here old two new _ (e.Call f (exprs_of p.value)) (Grows-named p.stands.grows exprs same_parts)
    (ap (λ g. e.Call g (list_in (expr_at two.exprs) two.parts list)) is ∙ ap (λ xs. e.Call f (list_in (expr_at xs) two.parts list)) exprs ∙ ap (λ ps. e.Call f (list_in (expr_at one.exprs) ps list)) same_parts ∙ ap (e.Call f) p.stands.stands) same h))

-- ---- the argument of a square operator

the_one_is : (o : Option Data) (x : Data) → option_and_then the_one o ≡ Some x → o ≡ Some (array (item x no_items))
the_one_is None x h = absurd cc
the_one_is (Some null) x h = absurd cc
the_one_is (Some (boolean b)) x h = absurd cc
the_one_is (Some (number n)) x h = absurd cc
the_one_is (Some (string s)) x h = absurd cc
the_one_is (Some (object ms)) x h = absurd cc
the_one_is (Some (array no_items)) x h = absurd cc
the_one_is (Some (array (item d no_items))) x h = let same : d ≡ x = cc in ap (λ d. Some (array (item d no_items))) same
the_one_is (Some (array (item d (item f ds)))) x h = absurd cc

-- the array that it stands in, and it
abbrev pub list_spot : Spot → Data → Spot
list_spot here x = below (codes "arguments") here (array (item x no_items))

abbrev pub argument_spot : Spot → Data → Spot
argument_spot here x = spot (element (list_spot here x).at 0) x

list_there : (here : Spot) (v : Value) → IsArgument here.value v → needed (codes "arguments") here ≡ Done (list_spot here (view v))
list_there here v is = ap (λ o. needs (option_map (below (codes "arguments") here) o) here (Missing (codes "arguments"))) (the_one_is (get (codes "arguments") here.value) (view v) is)

pub argument_here : (here list : Spot) (v : Value) → IsArgument here.value v → needed (codes "arguments") here ≡ Done list → (place : Spot) → place ≡ spot (element list.at 0) (view v) → place ≡ argument_spot here (view v)
argument_here here list v is there place at_it = let same : list ≡ list_spot here (view v) = let found = list_there here v is in cc in at_it ∙ ap (λ l. spot (element l.at 0) (view v)) same

-- it nests less deep than its owner
pub argument_shallower : (here : Spot) (v : Value) → IsArgument here.value v → depth (view v) < depth here.value
argument_shallower here v is = omega (arith, needed_shallower (codes "arguments") here (list_spot here (view v)) (list_there here v is))

then-done : {A : Type 0} (w : Walk A) → w >>> (λ x. Done x) ≡ w
then-done (Done x) = refl
then-done (Stop f) = refl
then-done (Meet m w) = ap (Meet m) (then-done w)

argument_is : (here : Spot) (v : Value) (wanted : Wanted) → IsArgument here.value v → argument wanted (inside_of reader here) ≡ at_spot reader wanted (argument_spot here (view v))
argument_is here v wanted is =
    let place = argument_spot here (view v) in
    ap (λ (w : Walk Spot). w >>> elements_at reader wanted >>> λ es. Done (sole es)) (list_there here v is)
    ∙ then-assoc (at_spot reader wanted place) (λ x. Done (x ∷ [])) (λ es. Done (sole es)) ∙ then-done (at_spot reader wanted place)

abbrev index_walk : Spot → Spot → Walk Expr
index_walk here place = part (codes "var") here >>> λ x. expression place >>> λ bit. counted here (e.Slice x bit bit)

abbrev slice_walk : Spot → Spot → Walk Expr
slice_walk here place = part (codes "var") here >>> λ x. part (codes "left") place >>> λ high. part (codes "right") place >>> λ low. counted here (e.Slice x high low)

index_is : (here : Spot) (v : Value) → IsArgument here.value v → formed_at AnIndex here ≡ index_walk here (argument_spot here (view v))
index_is here v is = then-same (part (codes "var") here) _ _ (λ x. ap (λ w. w >>> λ bit. counted here (e.Slice x bit bit)) (argument_is here v Itself is))

slice_is : (here : Spot) (v : Value) → IsArgument here.value v → formed_at ASlice here ≡ slice_walk here (argument_spot here (view v))
slice_is here v is =
    let place = argument_spot here (view v) in
    then-same (part (codes "var") here) _ _ (λ x.
    ap (λ w. w >>> λ high. argument (Its (codes "right")) (inside_of reader here) >>> λ low. counted here (e.Slice x high low)) (argument_is here v (Its (codes "left")) is ∙ member-formed (codes "left") place)
    ∙ then-same (part (codes "left") place) _ _ (λ high. ap (λ w. w >>> λ low. counted here (e.Slice x high low)) (argument_is here v (Its (codes "right")) is ∙ member-formed (codes "right") place)))

abbrev pub ArgumentRead : Spot → Drafted → Drafted → ℕ → Type 0
ArgumentRead place old mid k = Ends (expression place) (counts old) (counts mid) (λ x. IsRead old mid x k)

pub index_returns : {T : Type 0} (r : Result T ReadFault) (number_of : T → ℕ) (here : Spot) (v : Value) (old one two new : Drafted) (j k : ℕ) → IsArgument here.value v → (place : Spot) → place ≡ argument_spot here (view v) → PartRead (codes "var") here old one j → ArgumentRead place one two k → new.parts ≡ two.parts
    → Puts r (one_more AnExpression here) (counts two) (counts new) (λ _ id. Pushed two new (e.Slice (expr_at two.exprs j) (expr_at two.exprs k) (expr_at two.exprs k)) (number_of id)) → Puts r (formed_at AnIndex here) (counts old) (counts new) (λ y id. IsRead old new y (number_of id))
index_returns r number_of here v old one two new j k is place at_it p q same h =
    let bits = IsRead-later p.stands q.stands.grows in
    Puts-same r _ _ _ _ _ (index_is here v is ∙ ap (index_walk here) (sym at_it))
    (Puts-then r (part (codes "var") here) (λ x. expression place >>> λ bit. counted here (e.Slice x bit bit)) p.value (counts old) (counts one) (counts new) _ p.walked
    (Puts-then r (expression place) (λ bit. counted here (e.Slice p.value bit bit)) q.value (counts one) (counts two) (counts new) _ q.walked
    (counted_returns r number_of here old two new _ (e.Slice p.value q.value q.value) (Grows-weaker 0 (omega arith) (Grows-trans p.stands.grows q.stands.grows))
    (ap (λ x. e.Slice x (expr_at two.exprs k) (expr_at two.exprs k)) bits.1 ∙ ap (λ bit. e.Slice p.value bit bit) q.stands.stands) same h)))

pub index_fails : (f : ReadFault) (here : Spot) (v : Value) (old one : Drafted) (j : ℕ) → IsArgument here.value v → (place : Spot) → place ≡ argument_spot here (view v) → PartRead (codes "var") here old one j → Fails f (gives (expression place) (counts one)) → Fails f (gives (formed_at AnIndex here) (counts old))
index_fails f here v old one j is place at_it p h =
    Fails-same f _ _ (ap (λ w. gives w (counts old)) (index_is here v is ∙ ap (index_walk here) (sym at_it)) ∙ gives-next (part (codes "var") here) (λ x. expression place >>> λ bit. counted here (e.Slice x bit bit)) (counts old) (counts one) p.value p.walked)
    (Fails-then f (expression place) (λ bit. counted here (e.Slice p.value bit bit)) (counts one) h)

pub slice_returns : {T : Type 0} (r : Result T ReadFault) (number_of : T → ℕ) (here : Spot) (v : Value) (old one two three new : Drafted) (j k l : ℕ) → IsArgument here.value v → (place : Spot) → place ≡ argument_spot here (view v)
    → PartRead (codes "var") here old one j → PartRead (codes "left") place one two k → PartRead (codes "right") place two three l → new.parts ≡ three.parts
    → Puts r (one_more AnExpression here) (counts three) (counts new) (λ _ id. Pushed three new (e.Slice (expr_at three.exprs j) (expr_at three.exprs k) (expr_at three.exprs l)) (number_of id)) → Puts r (formed_at ASlice here) (counts old) (counts new) (λ y id. IsRead old new y (number_of id))
slice_returns r number_of here v old one two three new j k l is place at_it p q s same h =
    let ends = Grows-trans q.stands.grows s.stands.grows in
    let bits = IsRead-later p.stands ends in
    let high = IsRead-later q.stands s.stands.grows in
    Puts-same r _ _ _ _ _ (slice_is here v is ∙ ap (slice_walk here) (sym at_it))
    (Puts-then r (part (codes "var") here) (λ x. part (codes "left") place >>> λ high. part (codes "right") place >>> λ low. counted here (e.Slice x high low)) p.value (counts old) (counts one) (counts new) _ p.walked
    (Puts-then r (part (codes "left") place) (λ high. part (codes "right") place >>> λ low. counted here (e.Slice p.value high low)) q.value (counts one) (counts two) (counts new) _ q.walked
    (Puts-then r (part (codes "right") place) (λ low. counted here (e.Slice p.value q.value low)) s.value (counts two) (counts three) (counts new) _ s.walked
    (counted_returns r number_of here old three new _ (e.Slice p.value q.value s.value) (Grows-weaker 0 (omega arith) (Grows-trans p.stands.grows ends))
    (ap (λ x. e.Slice x (expr_at three.exprs k) (expr_at three.exprs l)) bits.1 ∙ ap (λ x. e.Slice p.value x (expr_at three.exprs l)) high.1 ∙ ap (e.Slice p.value q.value) s.stands.stands) same h))))

-- its high end, or its low one, fails
pub high_fails : (f : ReadFault) (here : Spot) (v : Value) (old one : Drafted) (j : ℕ) → IsArgument here.value v → (place : Spot) → place ≡ argument_spot here (view v) → PartRead (codes "var") here old one j → Fails f (gives (part (codes "left") place) (counts one)) → Fails f (gives (formed_at ASlice here) (counts old))
high_fails f here v old one j is place at_it p h =
    Fails-same f _ _ (ap (λ w. gives w (counts old)) (slice_is here v is ∙ ap (slice_walk here) (sym at_it)) ∙ gives-next (part (codes "var") here) (λ x. part (codes "left") place >>> λ high. part (codes "right") place >>> λ low. counted here (e.Slice x high low)) (counts old) (counts one) p.value p.walked)
    (Fails-then f (part (codes "left") place) (λ high. part (codes "right") place >>> λ low. counted here (e.Slice p.value high low)) (counts one) h)

pub low_fails : (f : ReadFault) (here : Spot) (v : Value) (old one two : Drafted) (j k : ℕ) → IsArgument here.value v → (place : Spot) → place ≡ argument_spot here (view v) → PartRead (codes "var") here old one j → PartRead (codes "left") place one two k
    → Fails f (gives (part (codes "right") place) (counts two)) → Fails f (gives (formed_at ASlice here) (counts old))
low_fails f here v old one two j k is place at_it p q h =
    Fails-same f _ _ (ap (λ w. gives w (counts old)) (slice_is here v is ∙ ap (slice_walk here) (sym at_it)) ∙ gives-next (part (codes "var") here) (λ x. part (codes "left") place >>> λ high. part (codes "right") place >>> λ low. counted here (e.Slice x high low)) (counts old) (counts one) p.value p.walked
    ∙ gives-next (part (codes "left") place) (λ high. part (codes "right") place >>> λ low. counted here (e.Slice p.value high low)) (counts one) (counts two) q.value q.walked)
    (Fails-then f (part (codes "right") place) (λ low. counted here (e.Slice p.value q.value low)) (counts two) h)

-- ---- the loop over a list

pub maps-more : (xs more : List Expr) (ks : List ℕ) → All (λ k. k < length xs) ks → map (expr_at (xs ++ more)) ks ≡ map (expr_at xs) ks
maps-more xs more [] within = refl
maps-more xs more (k ∷ ks) within =
    ap (λ x. x ∷ map (expr_at (xs ++ more)) ks) (at-more xs more k (All-head (λ k. k < length xs) k ks within))
    ∙ ap (λ rest. expr_at xs k ∷ rest) (maps-more xs more ks (All-tail (λ k. k < length xs) k ks within))

AreRead-next : {old now new : Drafted} {es : List Expr} {ids : List ℕ} {x : Expr} {k : ℕ} → AreRead old now es ids → IsRead now new x k → AreRead old new (es ++ x ∷ []) (ids ++ k ∷ [])
AreRead-next {old} {now} {new} {es} {ids} {x} {k} r p =
    let longer : length now.exprs ≤ length new.exprs = omega (arith, ap length p.grows.exprs, length-append now.exprs p.grows.more) in record {
      grows = subst (Grows old new) (sym (length-append ids (k ∷ []))) (Grows-trans r.grows p.grows);
      within = All-push (λ id. id < length new.exprs) ids k (λ i d h. omega (arith, r.within i d h)) p.within;
      stand =
          map_push (expr_at new.exprs) ids k ∙ ap (λ x. map (expr_at new.exprs) ids ++ x ∷ []) p.stands
          ∙ ap (λ xs. map (expr_at xs) ids ++ x ∷ []) p.grows.exprs
          ∙ ap (λ front. front ++ x ∷ []) (maps-more now.exprs p.grows.more ids r.within ∙ r.stand);
    }

-- so many elements are read, and the numbers stand for them
pub record PartsRead (at : List ℕ) (old now : Drafted) (ids : List ℕ) (i : ℕ) (vs : List Value) : Type 0 where
  pub found : List Expr
  pub each : EachRead (λ _. at_spot reader Itself) at found (counts old) (counts now) i vs
  pub read : AreRead old now found ids
  pub nodes : now.nodes ≡ old.nodes
  pub kept : IsExtended old.names now.names

pub PartsRead-next : {at : List ℕ} {old now : Drafted} {ids : List ℕ} {i : ℕ} {vs : List Value} → PartsRead at old now ids i vs → (v : Value) → i < length vs → v ≡ get_or vs i v → (here : Spot) → here ≡ spot (element at i) (view v) → (new : Drafted) (k : ℕ)
    → ArgumentRead here now new k → new.nodes ≡ now.nodes → IsExtended now.names new.names → PartsRead at old new (ids ++ k ∷ []) (i + 1) vs
PartsRead-next {at} {old} {now} {ids} {i} {vs} r v within is here at_it new k p same more = record {
  found = r.found ++ p.value ∷ [];
  each = EachRead-next r.each v within is here at_it p.value (counts new) p.walked;
  read = AreRead-next r.read p.stands;
  nodes = same ∙ r.nodes;
  kept = IsExtended-trans old.names now.names new.names r.kept more;
}

array_is : (key : List ℕ) (here list : Spot) (vs : List Value) → needed key here ≡ Done list → elements list ≡ Done (items_view vs) → parts key here ≡ each (λ _. at_spot reader Itself) list.at [] (items_view vs)
array_is key here list vs there is = ap (λ (w : Walk Spot). w >>> elements_at reader Itself) there ∙ ap (λ w. w >>> each (λ _. at_spot reader Itself) list.at []) is

pub parts_fail : (f : ReadFault) (key : List ℕ) (here list : Spot) {old now : Drafted} {ids : List ℕ} {i : ℕ} {vs : List Value} → needed key here ≡ Done list → elements list ≡ Done (items_view vs) → PartsRead list.at old now ids i vs → (v : Value) → i < length vs → v ≡ get_or vs i v → (place : Spot) → place ≡ spot (element list.at i) (view v)
    → Fails f (gives (expression place) (counts now)) → Fails f (gives (parts key here) (counts old))
parts_fail f key here list {old} {now} {ids} {i} {vs} there is r v within at_i place at_it h =
    Fails-same f _ _ (ap (λ w. gives w (counts old)) (array_is key here list vs there is)) (EachRead-fails r.each v within at_i place at_it f h)

-- ---- the list is put

range-behind : (xs ys : List ℕ) → slice_range (xs ++ ys) (length xs) (length xs + length ys) ≡ ys
range-behind xs ys =
    let size : length xs + length ys - length xs ≡ length ys = omega arith in
    ap (λ zs. take (length xs + length ys - length xs) zs) (drop-append-le (length xs) xs ys (omega arith) ∙ ap (λ zs. zs ++ ys) (drop_all (length xs) xs (omega arith)))
    ∙ ap (λ n. take n ys) size ∙ take-length ys

-- what holds of the numbers of parts holds of the parts
pub All-numbers : (n : ℕ) (ids : List ExprId) → All (λ k. k < n) (map (λ id. id.0) ids) → All (λ part. part.0 < n) ids
All-numbers n ids within k d h = subst (λ (m : ℕ). m < n) (get_or-map (λ id. id.0) ids k d d.0 h) (within k d.0 (omega (arith, length-map ids (λ (id : ExprId). id.0))))

-- a list is put behind the parts of others
pub record IsPut (now new : Drafted) (ids : List ℕ) (list : ExprList) : Type 0 where
  pub from : list.from ≡ length now.parts
  pub len : list.len ≡ length ids
  pub parts : new.parts ≡ now.parts ++ ids
  pub exprs : new.exprs ≡ now.exprs

list_read : {old now new : Drafted} {es : List Expr} {ids : List ℕ} {list : ExprList} → AreRead old now es ids → IsPut now new ids list → IsListRead old new es list
list_read {old} {now} {new} {es} {ids} {list} r p =
    let count = ap length p.parts ∙ length-append now.parts ids in record {
      grows = record { more = r.grows.more; exprs = p.exprs ∙ r.grows.exprs; free = omega (arith, r.grows.free, count, ap length p.exprs) };
      within = omega (arith, p.from, p.len, count);
      stands =
          ap (λ xs. list_in (expr_at xs) new.parts list) p.exprs
          ∙ ap (λ ks. exprs_of (map (expr_at now.exprs) ks))
          (ap (λ ps. slice_range ps list.from (list.from + list.len)) p.parts ∙ ap (λ n. slice_range (now.parts ++ ids) n (n + list.len)) p.from
          ∙ ap (λ n. slice_range (now.parts ++ ids) (length now.parts) (length now.parts + n)) p.len ∙ range-behind now.parts ids)
          ∙ ap exprs_of r.stand;
    }

pub list_returns : (r : Result ExprList ReadFault) (key : List ℕ) (here list : Spot) (old now new : Drafted) (put ids : List ExprId) (i : ℕ) (vs : List Value) → needed key here ≡ Done list → elements list ≡ Done (items_view vs) → PartsRead list.at old now (map (λ id. id.0) ids) i vs → length vs ≤ i
    → put ≡ ids → new.exprs ≡ now.exprs → Puts r nothing (counts now) (counts new) (λ _ l. (l.from ≡ length now.parts) × ((l.len ≡ length put) × (new.parts ≡ with_list put now.parts)))
    → Puts r (parts key here) (counts old) (counts new) (λ es l. IsListRead old new es l)
list_returns (Ok l) key here list old now new put ids i vs there is r past same exprs h = record {
  value = r.found;
  walked = ap (λ w. gives w (counts old)) (array_is key here list vs there is) ∙ EachRead-all r.each past ∙ ap (λ c. Ok (r.found, c)) (given tt h.value (counts now) (counts new) (gives nothing (counts now)) refl h.walked).1;
  stands = list_read r.read (record {
    from = h.stands.0;
    len = h.stands.1.0 ∙ ap length same ∙ sym (length-map ids (λ (id : ExprId). id.0));
    parts = h.stands.1.1 ∙ ap (λ xs. with_list xs now.parts) same;
    exprs = exprs;
  });
}
list_returns (Err (Schema f)) key here list old now new put ids i vs there is r past same exprs h = absurd (cc)
list_returns (Err NoMemory) key here list old now new put ids i vs there is r past same exprs h = tt

-- ---- functions

pub function_other : (name : List ℕ) → (name ≡ codes "UInt" → ⊥) → (name ≡ codes "IsZero" → ⊥) → (name ≡ codes "IsOnes" → ⊥) → (name ≡ codes "IsFeatureImplemented" → ⊥) → function_named name ≡ e.Named name
function_other name one two three four = rw (differs (codes "UInt") name one, differs (codes "IsZero") name two, differs (codes "IsOnes") name three, differs (codes "IsFeatureImplemented") name four) refl

pub function_named_returns : (here : Spot) (name text : List ℕ) (c d : Counts) → function_named name ≡ e.Named name → gives (named here name) c ≡ Ok (text, d) → gives (function_at here (function_named name)) c ≡ Ok (e.Named name, d)
function_named_returns here name text c d is walked = ap (λ f. gives (function_at here f) c) is ∙ gives-next (named here name) (λ _. Done (e.Named name)) c d text walked

pub function_fails : (f : ReadFault) (here : Spot) (name : List ℕ) (c : Counts) → function_named name ≡ e.Named name → Fails f (gives (named here name) c) → Fails f (gives (function_at here (function_named name)) c)
function_fails f here name c is h = Fails-same f _ _ (ap (λ f. gives (function_at here f) c) is) (Fails-then f (named here name) (λ _. Done (e.Named name)) c h)
