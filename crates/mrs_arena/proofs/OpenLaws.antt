-- The arrays of a builder, as nodes and items are put.
use Rattle.std.proofs.Common.{◌≡◌, ◌∙◌, sym, ap, refl, subst, ℕ, ◌+◌, ◌-◌, ◌<◌, ◌≤◌, Bool, true, false, nat_le, cond, List, [], ◌∷◌, ◌++◌, length, map, take, drop, get_or, Option, Some, None, is_some, option_map, IfSome, arith, ◌⊎◌, inl, inr, All, length-drop, zero-add, length-append, ap₂}
use Rattle.std.specs.Prelude.{slice_range}
use Rattle.std.specs.Int.{from_bool}
use Rattle.std.proofs.lemmas.Bool.{cases_lt, lt-leb, or_from}
use Rattle.std.proofs.lemmas.List.{map_push, length-map, length_push, get_or_push, get_or_append_left, drop-append-le, take-append-le, take_all, drop_all}
use Rattle.std.proofs.lemmas.List.Elements.{All-push, All-pop, All-head, All-tail, All-weaker}
use Rattle.spec_walk.specs.Limits.{node_limit}
use Rattle.spec_expressions.specs.Expression.{ExprOf, Other}
use Rattle.mrs_arena.specs.declared.expr_id.ExprId.{ExprId}
use Rattle.mrs_arena.specs.declared.kind.Kind.{Kind}
use Rattle.mrs_arena.specs.declared.item.Item.{Item}
use Rattle.mrs_arena.specs.declared.node.StoredNode.{StoredNode}
use Rattle.mrs_arena.specs.declared.node_id.NodeId.{NodeId}
use Rattle.mrs_arena.specs.Flat.{FlatNode}
use Rattle.mrs_arena.specs.Views.{flat_item}
use Rattle.mrs_arena.specs.Paths.{IsPlace}
use Rattle.mrs_arena.specs.Nodes.{parents_of, named_on, is_taken}
use Rattle.mrs_arena.specs.Limits.{is_leaf, is_alias, leaf_count, alias_count, is_kind_full, is_node_refused, is_item_refused}
use Rattle.mrs_arena.specs.Formed.{AreNodes}
use Rattle.mrs_arena.specs.Inside.{parent_of, node_with, flat_node, flat_nodes, HasRange, said, IsSaid, HasExprs, kept_count, AreOpen}
use Rattle.mrs_arena.proofs.PreorderLaws.{IsPlace-lt}
use Rattle.mrs_arena.proofs.NodeLaws.{length-parents_of, named_in, named_up, named_on-append, named_on-push, count_by_push}
use Rattle.mrs_arena.proofs.FormedLaws.{grown, AreNodes-none, AreNodes-push, AreNodes-item, AreNodes-saying, leaf_count-push, alias_count-push}
use Rattle.mrs_arena.proofs.ItemLaws.{IsItem-flat}

-- ---- ranges of items

-- a node's items stay while more are put
flat_node-append : (exprs : List (ExprOf ℕ)) (items more : List Item) (node : StoredNode) → HasRange items node → flat_node exprs (items ++ more) node ≡ flat_node exprs items node
flat_node-append exprs items more node range =
    let there = drop-append-le node.from items more (omega (arith, range.0, range.1)) in
    let inside = take-append-le (node.to - node.from) (drop node.from items) more (omega (arith, range.0, range.1, length-drop node.from items)) in
    ap (λ its. node_with exprs node (map flat_item its)) (ap (λ its. take (node.to - node.from) its) there ∙ inside)

pub flat_nodes-append : (exprs : List (ExprOf ℕ)) (items more : List Item) (nodes : List StoredNode) → All (HasRange items) nodes → flat_nodes exprs (items ++ more) nodes ≡ flat_nodes exprs items nodes
flat_nodes-append exprs items more [] ranges = refl
flat_nodes-append exprs items more (node ∷ nodes) ranges =
    ap (λ flat. flat ∷ flat_nodes exprs (items ++ more) nodes) (flat_node-append exprs items more node (All-head (HasRange items) node nodes ranges))
    ∙ ap (λ flat. flat_node exprs items node ∷ flat) (flat_nodes-append exprs items more nodes (All-tail (HasRange items) node nodes ranges))

-- a node whose range is empty has no items
pub flat_node-new : (exprs : List (ExprOf ℕ)) (items : List Item) (node : StoredNode) → node.from ≡ length items → node.to ≡ length items → flat_node exprs items node ≡ node_with exprs node []
flat_node-new exprs items node from to =
    let none : take (node.to - node.from) (drop node.from items) ≡ [] = ap (λ its. take (node.to - node.from) its) (drop_all node.from items (omega arith)) ∙ take_all (node.to - node.from) [] (omega arith) in
    ap (λ its. node_with exprs node (map flat_item its)) none

-- one more item at the end of the last range
abbrev pub longer : StoredNode → ℕ → StoredNode
longer node named = record node { to = node.to + 1; named = named }

range_longer : (items : List Item) (it : Item) (from to : ℕ) → from ≤ to → to ≡ length items → slice_range (items ++ it ∷ []) from (to + 1) ≡ slice_range items from to ++ it ∷ []
range_longer items it from to low last =
    let rest = drop from items in
    let before : take (to - from) rest ≡ rest = take_all (to - from) rest (omega (arith, length-drop from items)) in
    let after : take (to + 1 - from) (rest ++ it ∷ []) ≡ rest ++ it ∷ [] = take_all (to + 1 - from) (rest ++ it ∷ []) (omega (arith, length-drop from items, length_push rest it)) in
    ap (λ its. take (to + 1 - from) its) (drop-append-le from items (it ∷ []) (omega arith)) ∙ after ∙ ap (λ its. its ++ it ∷ []) (sym before)

pub flat_node-longer : (exprs : List (ExprOf ℕ)) (items : List Item) (it : Item) (node : StoredNode) (named : ℕ) → HasRange items node → node.to ≡ length items
    → flat_node exprs (items ++ it ∷ []) (longer node named) ≡ grown (flat_node exprs items node) (flat_item it)
flat_node-longer exprs items it node named range last =
    ap (node_with exprs node)
    (ap (map flat_item) (range_longer items it node.from node.to range.0 last) ∙ map_push flat_item (slice_range items node.from node.to) it)

-- ---- one more node

pub AreOpen-none : (exprs : List (ExprOf ℕ)) → AreOpen exprs [] [] 0 0
AreOpen-none exprs = record {
  ranges = λ k d h. absurd (omega arith);
  said = λ k d h. absurd (omega arith);
  last = λ h. absurd (omega arith);
  leaves_are = refl;
  aliases_are = refl;
  named = λ n h. absurd (omega arith);
  formed = AreNodes-none;
}

pub flat_nodes-push : (exprs : List (ExprOf ℕ)) (items : List Item) (nodes : List StoredNode) (node : StoredNode) → node.from ≡ length items → node.to ≡ length items
    → flat_nodes exprs items (nodes ++ node ∷ []) ≡ flat_nodes exprs items nodes ++ node_with exprs node [] ∷ []
flat_nodes-push exprs items nodes node from to = map_push (flat_node exprs items) nodes node ∙ ap (λ flat. flat_nodes exprs items nodes ++ flat ∷ []) (flat_node-new exprs items node from to)

-- a parent that may be one is a node
pub IfSome-place : (exprs : List (ExprOf ℕ)) (items : List Item) (nodes : List StoredNode) (parent : Option NodeId) → IsPlace (parents_of (flat_nodes exprs items nodes)) (option_map (λ p. p.0) parent) → IfSome parent (λ p. p.0 < length nodes)
IfSome-place exprs items nodes None place = tt
IfSome-place exprs items nodes (Some p) place = omega (arith, IsPlace-lt (parents_of (flat_nodes exprs items nodes)) p.0 place, length-parents_of (flat_nodes exprs items nodes), length-map nodes (flat_node exprs items))

-- the counts that are kept are those of named items
kept_count-is : (exprs : List (ExprOf ℕ)) (nodes : List StoredNode) (items : List Item) (leaves aliases : ℕ) → AreOpen exprs nodes items leaves aliases → (parent : Option ℕ) → IsPlace (parents_of (flat_nodes exprs items nodes)) parent
    → kept_count nodes parent ≡ named_up (flat_nodes exprs items nodes) parent
kept_count-is exprs nodes items leaves aliases are None place = refl
kept_count-is exprs nodes items leaves aliases are (Some p) place =
    are.named p (omega (arith, IsPlace-lt (parents_of (flat_nodes exprs items nodes)) p place, length-parents_of (flat_nodes exprs items nodes), length-map nodes (flat_node exprs items)))

-- each count that is kept, where one more is kept behind
kept_count-push : (nodes : List StoredNode) (node : StoredNode) (flat : List FlatNode) (last : FlatNode) → length flat ≡ length nodes
    → ((n : ℕ) → n < length nodes → kept_count nodes (Some n) ≡ named_on flat n)
    → node.named ≡ named_in last.items + named_up flat last.parent
    → (n : ℕ) → n < length (nodes ++ node ∷ []) → kept_count (nodes ++ node ∷ []) (Some n) ≡ named_on (flat ++ last ∷ []) n
kept_count-push nodes node flat last same before here n h = go (cases_lt n (length nodes))
  where
    counts : kept_count (nodes ++ node ∷ []) (Some n) ≡ get_or (map (λ other. other.named) nodes ++ node.named ∷ []) n 0
    counts = ap (λ ns. get_or ns n 0) (map_push (λ other. other.named) nodes node)

    go : (n < length nodes) ⊎ (length nodes ≤ n) → kept_count (nodes ++ node ∷ []) (Some n) ≡ named_on (flat ++ last ∷ []) n
    go (inl lt) =
        counts ∙ get_or_append_left (map (λ other. other.named) nodes) (node.named ∷ []) 0 n (omega (arith, length-map nodes (λ other. other.named)))
        ∙ before n lt ∙ sym (named_on-append flat (last ∷ []) n (omega arith))
    go (inr past) =
        let at : length (map (λ other. other.named) nodes) ≡ n = omega (arith, length-map nodes (λ other. other.named), length_push nodes node) in
        let end : length flat ≡ n = omega (arith, length_push nodes node) in
        counts ∙ get_or_push (map (λ other. other.named) nodes) node.named 0 n at ∙ here ∙ sym (named_on-push flat last) ∙ ap (λ k. named_on (flat ++ last ∷ []) k) end

pub last_to : (nodes : List StoredNode) (node : StoredNode) → get_or (map (λ other. other.to) (nodes ++ node ∷ [])) (length (nodes ++ node ∷ []) - 1) 0 ≡ node.to
last_to nodes node =
    ap (λ ns. get_or ns (length (nodes ++ node ∷ []) - 1) 0) (map_push (λ other. other.to) nodes node)
    ∙ get_or_push (map (λ other. other.to) nodes) node.to 0 (length (nodes ++ node ∷ []) - 1) (omega (arith, length-map nodes (λ other. other.to), length_push nodes node))

pub AreOpen-push : (exprs : List (ExprOf ℕ)) (nodes : List StoredNode) (items : List Item) (leaves aliases : ℕ) (node : StoredNode) (leaves' aliases' : ℕ) → AreOpen exprs nodes items leaves aliases
    → HasExprs exprs node → node.from ≡ length items → node.to ≡ length items → node.named ≡ kept_count nodes (parent_of node)
    → IsPlace (parents_of (flat_nodes exprs items nodes)) (parent_of node) → is_node_refused (flat_nodes exprs items nodes) node.kind ≡ false
    → leaves' ≡ leaves + cond (is_leaf node.kind) 1 0 → aliases' ≡ aliases + cond (is_alias node.kind) 1 0
    → AreOpen exprs (nodes ++ node ∷ []) items leaves' aliases'
AreOpen-push exprs nodes items leaves aliases node leaves' aliases' are has from to named place room more_leaves more_aliases =
    let flat = flat_nodes exprs items nodes in
    let new = node_with exprs node [] in
    let whole = flat_nodes-push exprs items nodes node from to in
    let counts = kept_count-push nodes node flat new (length-map nodes (flat_node exprs items)) are.named (named ∙ kept_count-is exprs nodes items leaves aliases are (parent_of node) place ∙ sym (zero-add (named_up flat (parent_of node)))) in
    record {
      ranges = All-push (HasRange items) nodes node are.ranges (omega arith, omega arith);
      said = All-push (HasExprs exprs) nodes node are.said has;
      last = λ h. last_to nodes node ∙ to;
      leaves_are = more_leaves ∙ ap (λ n. n + cond (is_leaf node.kind) 1 0) are.leaves_are ∙ sym (leaf_count-push flat new) ∙ ap leaf_count (sym whole);
      aliases_are = more_aliases ∙ ap (λ n. n + cond (is_alias node.kind) 1 0) are.aliases_are ∙ sym (alias_count-push flat new) ∙ ap alias_count (sym whole);
      named = λ n h. counts n h ∙ ap (λ ns. named_on ns n) (sym whole);
      formed = subst AreNodes (sym whole) (AreNodes-push flat new are.formed refl place room);
    }

-- what is kept decides whether a node is refused
pub is_node_refused-kept : (exprs : List (ExprOf ℕ)) (nodes : List StoredNode) (items : List Item) (leaves aliases : ℕ) (kind : Kind) → AreOpen exprs nodes items leaves aliases → length nodes < node_limit → is_kind_full kind leaves aliases ≡ false
    → is_node_refused (flat_nodes exprs items nodes) kind ≡ false
is_node_refused-kept exprs nodes items leaves aliases kind are few room =
    let flat = flat_nodes exprs items nodes in
    or_from (nat_le node_limit (length flat)) (is_kind_full kind (leaf_count flat) (alias_count flat))
    (lt-leb node_limit (length flat) (omega (arith, length-map nodes (flat_node exprs items))))
    (ap (λ n. is_kind_full kind n (alias_count flat)) (sym are.leaves_are) ∙ ap (λ n. is_kind_full kind leaves n) (sym are.aliases_are) ∙ room)

-- a count, where one is added for a test that holds
from_bool-is : (b : Bool) → from_bool b ≡ cond b 1 0
from_bool-is true = refl
from_bool-is false = refl

pub counted : (count more : ℕ) (test is : Bool) → more ≡ from_bool test → test ≡ is → count + more ≡ count + cond is 1 0
counted count more test is e f = ap (λ n. count + n) (e ∙ from_bool-is test ∙ ap (λ b. cond b 1 0) f)

-- ---- one more item

pub flat_nodes-item : (exprs : List (ExprOf ℕ)) (items : List Item) (it : Item) (front : List StoredNode) (node : StoredNode) (named : ℕ) → All (HasRange items) (front ++ node ∷ []) → node.to ≡ length items
    → flat_nodes exprs (items ++ it ∷ []) (front ++ longer node named ∷ []) ≡ flat_nodes exprs items front ++ grown (flat_node exprs items node) (flat_item it) ∷ []
flat_nodes-item exprs items it front node named ranges last =
    let split = All-pop (HasRange items) (front ++ node ∷ []) front (Some node) refl ranges in
    map_push (flat_node exprs (items ++ it ∷ [])) front (longer node named)
    ∙ ap (λ flat. flat ++ flat_node exprs (items ++ it ∷ []) (longer node named) ∷ []) (flat_nodes-append exprs items (it ∷ []) front split.0)
    ∙ ap (λ flat. flat_nodes exprs items front ++ flat ∷ []) (flat_node-longer exprs items it node named split.1 last)

wider : (items : List Item) (it : Item) (node : StoredNode) → HasRange items node → HasRange (items ++ it ∷ []) node
wider items it node range = (range.0, omega (arith, length_push items it, range.1))

all_wider : (items : List Item) (it : Item) (nodes : List StoredNode) → All (HasRange items) nodes → All (HasRange (items ++ it ∷ [])) nodes
all_wider items it nodes ranges k d h = wider items it (get_or nodes k d) (ranges k d h)

-- the counts that are kept of the nodes before the last one, and of the last one
kept-before : (exprs : List (ExprOf ℕ)) (front : List StoredNode) (node : StoredNode) (items : List Item) (leaves aliases : ℕ) → AreOpen exprs (front ++ node ∷ []) items leaves aliases
    → (n : ℕ) → n < length front → kept_count front (Some n) ≡ named_on (flat_nodes exprs items front) n
kept-before exprs front node items leaves aliases are n h =
    sym (get_or_append_left (map (λ other. other.named) front) (node.named ∷ []) 0 n (omega (arith, length-map front (λ other. other.named))))
    ∙ ap (λ ns. get_or ns n 0) (sym (map_push (λ other. other.named) front node))
    ∙ are.named n (omega (arith, length_push front node)) ∙ ap (λ ns. named_on ns n) (map_push (flat_node exprs items) front node)
    ∙ named_on-append (flat_nodes exprs items front) (flat_node exprs items node ∷ []) n (omega (arith, length-map front (flat_node exprs items)))

kept-last : (exprs : List (ExprOf ℕ)) (front : List StoredNode) (node : StoredNode) (items : List Item) (leaves aliases : ℕ) → AreOpen exprs (front ++ node ∷ []) items leaves aliases
    → node.named ≡ named_in (flat_node exprs items node).items + named_up (flat_nodes exprs items front) (parent_of node)
kept-last exprs front node items leaves aliases are =
    let flat = flat_nodes exprs items front in
    let own = flat_node exprs items node in
    sym (get_or_push (map (λ other. other.named) front) node.named 0 (length front) (length-map front (λ other. other.named)))
    ∙ ap (λ ns. get_or ns (length front) 0) (sym (map_push (λ other. other.named) front node))
    ∙ are.named (length front) (omega (arith, length_push front node)) ∙ ap (λ ns. named_on ns (length front)) (map_push (flat_node exprs items) front node)
    ∙ ap (λ k. named_on (flat ++ own ∷ []) k) (sym (length-map front (flat_node exprs items))) ∙ named_on-push flat own

pub AreOpen-item : (exprs : List (ExprOf ℕ)) (front : List StoredNode) (node : StoredNode) (items : List Item) (leaves aliases : ℕ) (it : Item) (named : ℕ) → AreOpen exprs (front ++ node ∷ []) items leaves aliases
    → is_taken (flat_node exprs items node).items (flat_item it).name ≡ false → is_item_refused (flat_nodes exprs items (front ++ node ∷ [])) (flat_item it) ≡ false
    → named ≡ node.named + cond (is_some (flat_item it).name) 1 0
    → AreOpen exprs (front ++ longer node named ∷ []) (items ++ it ∷ []) leaves aliases
AreOpen-item exprs front node items leaves aliases it named are free room more_named =
    let split = All-pop (HasRange items) (front ++ node ∷ []) front (Some node) refl are.ranges in
    let last : node.to ≡ length items = sym (last_to front node) ∙ are.last (omega (arith, length_push front node)) in
    let flat = flat_nodes exprs items front in
    let own = flat_node exprs items node in
    let before = map_push (flat_node exprs items) front node in
    let after = flat_nodes-item exprs items it front node named are.ranges last in
    let formed = AreNodes-item flat own (flat_item it) (subst AreNodes before are.formed) (IsItem-flat it) free (ap (λ ns. is_item_refused ns (flat_item it)) (sym before) ∙ room) in
    let same : length flat ≡ length front = length-map front (flat_node exprs items) in
    let said = All-pop (HasExprs exprs) (front ++ node ∷ []) front (Some node) refl are.said in
    let earlier = kept-before exprs front node items leaves aliases are in
    let here = kept-last exprs front node items leaves aliases are in
    let counted = count_by_push (λ other. is_some other.name) own.items (flat_item it) in
    let counts = kept_count-push front (longer node named) flat (grown own (flat_item it)) same earlier (omega arith) in
    record {
      said = All-push (HasExprs exprs) front (longer node named) said.0 said.1;
      ranges = All-push (HasRange (items ++ it ∷ [])) front (longer node named) (all_wider items it front split.0) (omega (arith, split.1), omega (arith, length_push items it));
      last = λ h. last_to front (longer node named) ∙ ap (λ n. n + 1) last ∙ sym (length_push items it);
      leaves_are = are.leaves_are ∙ ap leaf_count before ∙ leaf_count-push flat own ∙ sym (leaf_count-push flat (grown own (flat_item it))) ∙ ap leaf_count (sym after);
      aliases_are = are.aliases_are ∙ ap alias_count before ∙ alias_count-push flat own ∙ sym (alias_count-push flat (grown own (flat_item it))) ∙ ap alias_count (sym after);
      named = λ n h. counts n h ∙ ap (λ ns. named_on ns n) (sym after);
      formed = subst AreNodes (sym after) formed;
    }

-- ---- other expressions of the last node

-- a node that says something else in its expressions
abbrev pub saying : StoredNode → Option ExprId → Option ExprId → StoredNode
saying node condition preferred = record node { condition = condition; preferred = preferred }

pub AreOpen-saying : (exprs : List (ExprOf ℕ)) (front : List StoredNode) (node : StoredNode) (items : List Item) (leaves aliases : ℕ) (condition preferred : Option ExprId) → AreOpen exprs (front ++ node ∷ []) items leaves aliases
    → IsSaid exprs condition → IsSaid exprs preferred → AreOpen exprs (front ++ saying node condition preferred ∷ []) items leaves aliases
AreOpen-saying exprs front node items leaves aliases condition preferred are first second =
    let new = saying node condition preferred in
    let flat = flat_nodes exprs items front in
    let own = flat_node exprs items node in
    let said = flat_node exprs items new in
    let before = map_push (flat_node exprs items) front node in
    let after = map_push (flat_node exprs items) front new in
    let ranges = All-pop (HasRange items) (front ++ node ∷ []) front (Some node) refl are.ranges in
    let others = All-pop (HasExprs exprs) (front ++ node ∷ []) front (Some node) refl are.said in
    let counts = kept_count-push front new flat said (length-map front (flat_node exprs items)) (kept-before exprs front node items leaves aliases are) (kept-last exprs front node items leaves aliases are) in
    record {
      ranges = All-push (HasRange items) front new ranges.0 ranges.1;
      said = All-push (HasExprs exprs) front new others.0 (first, second);
      last = λ h. last_to front new ∙ sym (last_to front node) ∙ are.last (omega (arith, length_push front node));
      leaves_are = are.leaves_are ∙ ap leaf_count before ∙ leaf_count-push flat own ∙ sym (leaf_count-push flat said) ∙ ap leaf_count (sym after);
      aliases_are = are.aliases_are ∙ ap alias_count before ∙ alias_count-push flat own ∙ sym (alias_count-push flat said) ∙ ap alias_count (sym after);
      named = λ n h. counts n h ∙ ap (λ ns. named_on ns n) (sym after);
      formed = subst AreNodes (sym after) (AreNodes-saying flat own said.condition said.preferred (subst AreNodes before are.formed));
    }

-- ---- more expressions

said-more : (exprs more : List (ExprOf ℕ)) (e : Option ExprId) → IsSaid exprs e → said (exprs ++ more) e ≡ said exprs e
said-more exprs more None is = refl
said-more exprs more (Some id) is = ap Some (get_or_append_left exprs more Other id.0 is)

IsSaid-more : (exprs more : List (ExprOf ℕ)) (e : Option ExprId) → IsSaid exprs e → IsSaid (exprs ++ more) e
IsSaid-more exprs more None is = tt
IsSaid-more exprs more (Some id) is = omega (arith, is, length-append exprs more)

flat_node-more : (exprs more : List (ExprOf ℕ)) (items : List Item) (node : StoredNode) → HasExprs exprs node → flat_node (exprs ++ more) items node ≡ flat_node exprs items node
flat_node-more exprs more items node has =
    ap₂ (λ condition preferred. record (flat_node exprs items node) { condition = condition; preferred = preferred }) (said-more exprs more node.condition has.0) (said-more exprs more node.preferred has.1)

pub flat_nodes-more : (exprs more : List (ExprOf ℕ)) (items : List Item) (nodes : List StoredNode) → All (HasExprs exprs) nodes → flat_nodes (exprs ++ more) items nodes ≡ flat_nodes exprs items nodes
flat_nodes-more exprs more items [] has = refl
flat_nodes-more exprs more items (node ∷ nodes) has =
    ap₂ (λ flat rest. flat ∷ rest) (flat_node-more exprs more items node (All-head (HasExprs exprs) node nodes has)) (flat_nodes-more exprs more items nodes (All-tail (HasExprs exprs) node nodes has))

HasExprs-more : (exprs more : List (ExprOf ℕ)) (node : StoredNode) → HasExprs exprs node → HasExprs (exprs ++ more) node
HasExprs-more exprs more node has = (IsSaid-more exprs more node.condition has.0, IsSaid-more exprs more node.preferred has.1)

pub AreOpen-more : (exprs more : List (ExprOf ℕ)) (nodes : List StoredNode) (items : List Item) (leaves aliases : ℕ) → AreOpen exprs nodes items leaves aliases → AreOpen (exprs ++ more) nodes items leaves aliases
AreOpen-more exprs more nodes items leaves aliases are =
    let same = flat_nodes-more exprs more items nodes are.said in
    record {
      ranges = are.ranges;
      said = All-weaker (HasExprs exprs) (HasExprs (exprs ++ more)) (HasExprs-more exprs more) nodes are.said;
      last = are.last;
      leaves_are = are.leaves_are ∙ ap leaf_count (sym same);
      aliases_are = are.aliases_are ∙ ap alias_count (sym same);
      named = λ n h. are.named n h ∙ ap (λ flat. named_on flat n) (sym same);
      formed = subst AreNodes (sym same) are.formed;
    }
