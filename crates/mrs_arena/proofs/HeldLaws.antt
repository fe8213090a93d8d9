-- Laws of nodes whose names are held: their texts stay while names and nodes grow.
use Rattle.std.proofs.Common.{◌≡◌, ◌∙◌, ap, ap₂, refl, ℕ, ◌+◌, ◌<◌, ◌≤◌, Bool, cond, List, [], ◌∷◌, ◌++◌, length, map, get_or, Option, Some, None, is_some, option_map, IfSome, All, arith, length-append}
use Rattle.std.specs.Prelude.{count_by, fold}
use Rattle.std.proofs.lemmas.List.{get_or_append_left}
use Rattle.std.proofs.lemmas.List.Elements.{All-nil, All-cons, All-head, All-tail, All-push, All-weaker}
use Rattle.mrs_names.specs.Texts.{IsExtended}
use Rattle.spec_expressions.specs.Expression.{FunctionOf, UInt, IsZero, IsOnes, IsFeatureImplemented, Named, ExprOf, Boolean, Integer, Bits, Name, Not, Binary, Call, Set, Join, Slice, Other, ExprsOf, no_exprs, expr, function_with_names, all_with_names, FunctionHasNames, EachName, EachNameOfAll}
use Rattle.mrs_arena.specs.declared.kind.Kind.{Kind}
use Rattle.mrs_arena.specs.Flat.{FlatItem, FlatNode, with_text}
use Rattle.mrs_arena.specs.Nodes.{at_last, parents_of, new_node, with_item, with_condition, with_preferred}
use Rattle.mrs_arena.specs.Placed.{text_of, item_of, expr_of, own_of_flat, placed_node, IsHeldItem, IsHeldExpr, IsHeldNode, AreHeld, AreHeldExprs}

-- ---- more names

text_of-more : (names more : List (List ℕ)) (id : ℕ) → id < length names → text_of (names ++ more) id ≡ text_of names id
text_of-more names more id h = get_or_append_left names more [] id h

item_of-more : (names more : List (List ℕ)) (it : FlatItem) → IsHeldItem names it → item_of (names ++ more) it ≡ item_of names it
item_of-more names more it h = ap (λ text. with_text text it) (go it.name h)
  where
    go : (name : Option ℕ) → IfSome name (λ id. id < length names) → option_map (text_of (names ++ more)) name ≡ option_map (text_of names) name
    go None h = refl
    go (Some id) h = ap Some (text_of-more names more id h)

items_of-more : (names more : List (List ℕ)) (items : List FlatItem) → All (IsHeldItem names) items → map (item_of (names ++ more)) items ≡ map (item_of names) items
items_of-more names more [] held = refl
items_of-more names more (it ∷ items) held =
    ap (λ first. first ∷ map (item_of (names ++ more)) items) (item_of-more names more it (All-head (IsHeldItem names) it items held))
    ∙ ap (λ rest. item_of names it ∷ rest) (items_of-more names more items (All-tail (IsHeldItem names) it items held))

function_of-more : (names more : List (List ℕ)) (f : FunctionOf ℕ) → FunctionHasNames (λ id. id < length names) f → function_with_names (text_of (names ++ more)) f ≡ function_with_names (text_of names) f
function_of-more names more UInt held = refl
function_of-more names more IsZero held = refl
function_of-more names more IsOnes held = refl
function_of-more names more IsFeatureImplemented held = refl
function_of-more names more (Named id) held = ap Named (text_of-more names more id held)

mutual
  expr_of-more : (names more : List (List ℕ)) (e : ExprOf ℕ) → EachName (λ id. id < length names) e → expr_of (names ++ more) e ≡ expr_of names e
  expr_of-more names more (Boolean b) held = refl
  expr_of-more names more (Integer n) held = refl
  expr_of-more names more (Bits ds) held = refl
  expr_of-more names more (Name id) held = ap Name (text_of-more names more id held)
  expr_of-more names more (Not a) held = ap Not (expr_of-more names more a held)
  expr_of-more names more (Binary op a b) held = ap₂ (Binary op) (expr_of-more names more a held.0) (expr_of-more names more b held.1)
  expr_of-more names more (Call f args) held = ap₂ Call (function_of-more names more f held.0) (exprs_of-more names more args held.1)
  expr_of-more names more (Set members) held = ap Set (exprs_of-more names more members held)
  expr_of-more names more (Join parts) held = ap Join (exprs_of-more names more parts held)
  expr_of-more names more (Slice bits high low) held =
      ap₂ (λ e es. Slice e es (expr_of (names ++ more) low)) (expr_of-more names more bits held.0) (expr_of-more names more high held.1.0)
      ∙ ap (Slice (expr_of names bits) (expr_of names high)) (expr_of-more names more low held.1.1)
  expr_of-more names more Other held = refl

  exprs_of-more : (names more : List (List ℕ)) (es : ExprsOf ℕ) → EachNameOfAll (λ id. id < length names) es → all_with_names (text_of (names ++ more)) es ≡ all_with_names (text_of names) es
  exprs_of-more names more no_exprs held = refl
  exprs_of-more names more (expr e es) held = ap₂ expr (expr_of-more names more e held.0) (exprs_of-more names more es held.1)

said_of-more : (names more : List (List ℕ)) (e : Option (ExprOf ℕ)) → IsHeldExpr names e → option_map (expr_of (names ++ more)) e ≡ option_map (expr_of names) e
said_of-more names more None held = refl
said_of-more names more (Some e) held = ap Some (expr_of-more names more e held)

placed-more : (names more : List (List ℕ)) (node : FlatNode) → IsHeldNode names node → placed_node (names ++ more) node ≡ placed_node names node
placed-more names more node held =
    let own = own_of_flat (names ++ more) node in
    let named = record own { name = text_of names node.name } in
    let told = record named { items = map (item_of names) node.items } in
    ap (λ name. record { parent = node.parent; own = record own { name = name } }) (text_of-more names more node.name held.own)
    ∙ ap (λ items. record { parent = node.parent; own = record named { items = items } }) (items_of-more names more node.items held.items)
    ∙ ap (λ condition. record { parent = node.parent; own = record told { condition = condition } }) (said_of-more names more node.condition held.condition)
    ∙ ap (λ preferred. record { parent = node.parent; own = record told { condition = option_map (expr_of names) node.condition; preferred = preferred } }) (said_of-more names more node.preferred held.preferred)

all_placed-more : (names more : List (List ℕ)) (nodes : List FlatNode) → AreHeld names nodes → map (placed_node (names ++ more)) nodes ≡ map (placed_node names) nodes
all_placed-more names more [] held = refl
all_placed-more names more (node ∷ nodes) held =
    ap (λ first. first ∷ map (placed_node (names ++ more)) nodes) (placed-more names more node (All-head (IsHeldNode names) node nodes held))
    ∙ ap (λ rest. placed_node names node ∷ rest) (all_placed-more names more nodes (All-tail (IsHeldNode names) node nodes held))

-- so nodes stand for the same when names are added
pub placed-extended : (old new : List (List ℕ)) (nodes : List FlatNode) → IsExtended old new → AreHeld old nodes → map (placed_node new) nodes ≡ map (placed_node old) nodes
placed-extended old new nodes extended held = ap (λ names. map (placed_node names) nodes) extended.whole ∙ all_placed-more old extended.more nodes held

all_exprs-more : (names more : List (List ℕ)) (exprs : List (ExprOf ℕ)) → AreHeldExprs names exprs → map (expr_of (names ++ more)) exprs ≡ map (expr_of names) exprs
all_exprs-more names more [] held = refl
all_exprs-more names more (e ∷ exprs) held =
    ap₂ (λ e es. e ∷ es) (expr_of-more names more e (All-head (EachName (λ id. id < length names)) e exprs held)) (all_exprs-more names more exprs (All-tail (EachName (λ id. id < length names)) e exprs held))

pub exprs-extended : (old new : List (List ℕ)) (exprs : List (ExprOf ℕ)) → IsExtended old new → AreHeldExprs old exprs → map (expr_of new) exprs ≡ map (expr_of old) exprs
exprs-extended old new exprs extended held = ap (λ names. map (expr_of names) exprs) extended.whole ∙ all_exprs-more old extended.more exprs held

IsHeldItem-longer : (old new : List (List ℕ)) (name : Option ℕ) → length old ≤ length new → IfSome name (λ id. id < length old) → IfSome name (λ id. id < length new)
IsHeldItem-longer old new None longer held = tt
IsHeldItem-longer old new (Some id) longer held = omega arith

function-longer : (old new : ℕ) (f : FunctionOf ℕ) → old ≤ new → FunctionHasNames (λ id. id < old) f → FunctionHasNames (λ id. id < new) f
function-longer old new UInt longer held = tt
function-longer old new IsZero longer held = tt
function-longer old new IsOnes longer held = tt
function-longer old new IsFeatureImplemented longer held = tt
function-longer old new (Named id) longer held = omega (arith, held)

mutual
  EachName-longer : (old new : ℕ) (e : ExprOf ℕ) → old ≤ new → EachName (λ id. id < old) e → EachName (λ id. id < new) e
  EachName-longer old new (Boolean b) longer held = tt
  EachName-longer old new (Integer n) longer held = tt
  EachName-longer old new (Bits ds) longer held = tt
  EachName-longer old new (Name id) longer held = omega (arith, held)
  EachName-longer old new (Not a) longer held = EachName-longer old new a longer held
  EachName-longer old new (Binary op a b) longer held = (EachName-longer old new a longer held.0, EachName-longer old new b longer held.1)
  EachName-longer old new (Call f args) longer held = (function-longer old new f longer held.0, EachNameOfAll-longer old new args longer held.1)
  EachName-longer old new (Set members) longer held = EachNameOfAll-longer old new members longer held
  EachName-longer old new (Join parts) longer held = EachNameOfAll-longer old new parts longer held
  EachName-longer old new (Slice bits high low) longer held = (EachName-longer old new bits longer held.0, (EachName-longer old new high longer held.1.0, EachName-longer old new low longer held.1.1))
  EachName-longer old new Other longer held = tt

  EachNameOfAll-longer : (old new : ℕ) (es : ExprsOf ℕ) → old ≤ new → EachNameOfAll (λ id. id < old) es → EachNameOfAll (λ id. id < new) es
  EachNameOfAll-longer old new no_exprs longer held = tt
  EachNameOfAll-longer old new (expr e es) longer held = (EachName-longer old new e longer held.0, EachNameOfAll-longer old new es longer held.1)

IsHeldExpr-longer : (old new : List (List ℕ)) (e : Option (ExprOf ℕ)) → length old ≤ length new → IsHeldExpr old e → IsHeldExpr new e
IsHeldExpr-longer old new None longer held = tt
IsHeldExpr-longer old new (Some e) longer held = EachName-longer (length old) (length new) e longer held

IsHeldNode-longer : (old new : List (List ℕ)) (node : FlatNode) → length old ≤ length new → IsHeldNode old node → IsHeldNode new node
IsHeldNode-longer old new node longer held = record {
  own = omega (arith, held.own);
  items = λ k d h. IsHeldItem-longer old new (get_or node.items k d).name longer (held.items k d h);
  condition = IsHeldExpr-longer old new node.condition longer held.condition;
  preferred = IsHeldExpr-longer old new node.preferred longer held.preferred;
}

pub AreHeld-extended : (old new : List (List ℕ)) (nodes : List FlatNode) → IsExtended old new → AreHeld old nodes → AreHeld new nodes
AreHeld-extended old new nodes extended held =
    let longer : length old ≤ length new = omega (arith, ap length extended.whole, length-append old extended.more) in
    λ k d h. IsHeldNode-longer old new (get_or nodes k d) longer (held k d h)

pub AreHeldExprs-extended : (old new : List (List ℕ)) (exprs : List (ExprOf ℕ)) → IsExtended old new → AreHeldExprs old exprs → AreHeldExprs new exprs
AreHeldExprs-extended old new exprs extended held =
    let longer : length old ≤ length new = omega (arith, ap length extended.whole, length-append old extended.more) in
    All-weaker (EachName (λ id. id < length old)) (EachName (λ id. id < length new)) (λ e is. EachName-longer (length old) (length new) e longer is) exprs held

-- ---- more nodes and items

pub AreHeld-node : (names : List (List ℕ)) (nodes : List FlatNode) (kind : Kind) (name : ℕ) (parent : Option ℕ) → AreHeld names nodes → name < length names → AreHeld names (nodes ++ new_node kind name parent ∷ [])
AreHeld-node names nodes kind name parent held own = All-push (IsHeldNode names) nodes (new_node kind name parent) held (record { own = own; items = All-nil (IsHeldItem names); condition = tt; preferred = tt })

pub AreHeld-item : (names : List (List ℕ)) (it : FlatItem) (nodes : List FlatNode) → IsHeldItem names it → AreHeld names nodes → AreHeld names (with_item it nodes)
AreHeld-item names it [] own held = held
AreHeld-item names it (node ∷ []) own held =
    let last = All-head (IsHeldNode names) node [] held in
    All-cons (IsHeldNode names) (record node { items = node.items ++ it ∷ [] }) [] (record { own = last.own; items = All-push (IsHeldItem names) node.items it last.items own; condition = last.condition; preferred = last.preferred }) (All-nil (IsHeldNode names))
AreHeld-item names it (node ∷ next ∷ rest) own held =
    All-cons (IsHeldNode names) node (with_item it (next ∷ rest)) (All-head (IsHeldNode names) node (next ∷ rest) held)
    (AreHeld-item names it (next ∷ rest) own (All-tail (IsHeldNode names) node (next ∷ rest) held))

-- a condition or a preference whose names are held
abbrev HeldAtLast : List (List ℕ) → (FlatNode → FlatNode) → Type 0
HeldAtLast names says = (node : FlatNode) → IsHeldNode names node → IsHeldNode names (says node)

AreHeld-at_last : (names : List (List ℕ)) (says : FlatNode → FlatNode) (nodes : List FlatNode) → HeldAtLast names says → AreHeld names nodes → AreHeld names (at_last says nodes)
AreHeld-at_last names says [] own held = held
AreHeld-at_last names says (node ∷ []) own held = All-cons (IsHeldNode names) (says node) [] (own node (All-head (IsHeldNode names) node [] held)) (All-nil (IsHeldNode names))
AreHeld-at_last names says (node ∷ next ∷ rest) own held =
    All-cons (IsHeldNode names) node (at_last says (next ∷ rest)) (All-head (IsHeldNode names) node (next ∷ rest) held)
    (AreHeld-at_last names says (next ∷ rest) own (All-tail (IsHeldNode names) node (next ∷ rest) held))

pub AreHeld-condition : (names : List (List ℕ)) (e : ExprOf ℕ) (nodes : List FlatNode) → EachName (λ id. id < length names) e → AreHeld names nodes → AreHeld names (with_condition e nodes)
AreHeld-condition names e nodes own held =
    AreHeld-at_last names (λ node. record node { condition = Some e }) nodes (λ node is. record { own = is.own; items = is.items; condition = own; preferred = is.preferred }) held

pub AreHeld-preferred : (names : List (List ℕ)) (e : ExprOf ℕ) (nodes : List FlatNode) → EachName (λ id. id < length names) e → AreHeld names nodes → AreHeld names (with_preferred e nodes)
AreHeld-preferred names e nodes own held =
    AreHeld-at_last names (λ node. record node { preferred = Some e }) nodes (λ node is. record { own = is.own; items = is.items; condition = is.condition; preferred = own }) held

-- ---- what nodes stand for

pub parents-placed : (names : List (List ℕ)) (nodes : List FlatNode) → map (λ p. p.parent) (map (placed_node names) nodes) ≡ parents_of nodes
parents-placed names [] = refl
parents-placed names (node ∷ nodes) = ap (λ parents. node.parent ∷ parents) (parents-placed names nodes)

-- a count is that of the things that a list's stand for
count-from : {X Y : Type 0} (p : Y → Bool) (q : X → Bool) (f : X → Y) → ((x : X) → p (f x) ≡ q x) → (n : ℕ) (xs : List X) → fold (λ a y. a + cond (p y) 1 0) n (map f xs) ≡ fold (λ a x. a + cond (q x) 1 0) n xs
count-from p q f same n [] = refl
count-from p q f same n (x ∷ xs) = ap (λ b. fold (λ a y. a + cond (p y) 1 0) (n + cond b 1 0) (map f xs)) (same x) ∙ count-from p q f same (n + cond (q x) 1 0) xs

pub count_by-map : {X Y : Type 0} (p : Y → Bool) (q : X → Bool) (f : X → Y) (xs : List X) → ((x : X) → p (f x) ≡ q x) → count_by p (map f xs) ≡ count_by q xs
count_by-map p q f xs same = count-from p q f same 0 xs

pub is_some-map : {X Y : Type 0} (f : X → Y) (o : Option X) → is_some (option_map f o) ≡ is_some o
is_some-map f None = refl
is_some-map f (Some x) = refl
