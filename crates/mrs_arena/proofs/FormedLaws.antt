-- What holds of all nodes stays true while more are put.
use Rattle.std.proofs.Common.{◌≡◌, ◌∙◌, sym, ap, refl, subst, ℕ, zero, suc, ◌+◌, ◌-◌, ◌<◌, ◌≤◌, Bool, true, false, ◌||◌, ◌&&◌, cond, nat_le, ◌==◌, List, [], ◌∷◌, ◌++◌, length, get_or, Option, Some, None, is_some, option_map, unwrap_or, arith, ◌⊎◌, inl, inr}
use Rattle.std.specs.List.{list_any}
use Rattle.std.proofs.lemmas.Bool.{cases_lt, leb-false, or_parts, eq-eqb}
use Rattle.std.proofs.lemmas.List.{length_push}
use Rattle.std.proofs.lemmas.List.Elements.{All-push, All-pop, All-nil}
use Rattle.std.proofs.lemmas.List.Quantifiers.{all_pairs_push}
use Rattle.spec_walk.specs.Limits.{alias_limit, leaf_limit, node_limit}
use Rattle.spec_expressions.specs.Expression.{ExprOf}
use Rattle.spec_instructions.specs.Limits.{item_limit, named_limit}
use Rattle.mrs_arena.specs.declared.kind.Kind.{Kind}
use Rattle.mrs_arena.specs.declared.kind.Kind.TheVariants.{Set, Group, Leaf, Alias}
use Rattle.mrs_arena.specs.Flat.{FlatItem, FlatNode}
use Rattle.mrs_arena.specs.Paths.{IsPlace, IsPreorder}
use Rattle.mrs_arena.specs.Nodes.{parents_of, last_items, named_on, is_taken, has_name_id}
use Rattle.mrs_arena.specs.Limits.{is_leaf, is_alias, leaf_count, alias_count, is_kind_full, is_node_refused, is_item_refused}
use Rattle.mrs_arena.specs.Formed.{IsItem, HaveOwnNames, AreItems, AreNodes}
use Rattle.mrs_arena.proofs.PreorderLaws.{IsPlace-lt, IsPreorder-none, IsPreorder-push}
use Rattle.mrs_arena.proofs.NodeLaws.{parents_of-append, length-parents_of, last_items-push, count_by_push, named_in, named_up, named_on-append, named_on-push}

-- ---- items

pub AreItems-none : AreItems []
AreItems-none = record { few = omega arith; each = All-nil IsItem; apart = λ i j d lt within. absurd (omega arith) }

list_any-at : {X : Type 0} (p : X → Bool) (xs : List X) (k : ℕ) (d : X) → k < length xs → p (get_or xs k d) ≡ true → list_any p xs ≡ true
list_any-at p [] k d h e = absurd (omega arith)
list_any-at p (x ∷ xs) zero d h e = ap (λ b. b || list_any p xs) e
list_any-at p (x ∷ xs) (suc k) d h e = let rest = list_any-at p xs k d (omega arith) e in go (p x) (list_any p xs) rest
  where
    go : (a b : Bool) → b ≡ true → (a || b) ≡ true
    go true b e = refl
    go false b e = e

-- a name that is not taken is that of no item
pub is_taken-apart : (items : List FlatItem) (it : FlatItem) → is_taken items it.name ≡ false → (k : ℕ) (d : FlatItem) → k < length items → HaveOwnNames (get_or items k d) it
is_taken-apart items it free k d h name first second =
    let not_taken : list_any (has_name_id name) items ≡ false = ap (λ o. is_taken items o) (sym second) ∙ free in
    let named : has_name_id name (get_or items k d) ≡ true = ap (λ o. unwrap_or (option_map (λ other. other == name) o) false) first ∙ eq-eqb name name refl in
    absurd (let taken = list_any-at (has_name_id name) items k d h named in cc)

pub AreItems-push : (items : List FlatItem) (it : FlatItem) → AreItems items → IsItem it → is_taken items it.name ≡ false → length items < item_limit → AreItems (items ++ it ∷ [])
AreItems-push items it are is free room = record {
  few = omega (arith, length_push items it);
  each = All-push IsItem items it are.each is;
  apart = all_pairs_push HaveOwnNames items it are.apart (is_taken-apart items it free);
}

-- ---- nodes

abbrev pub HasItems : FlatNode → Type 0
HasItems node = AreItems node.items

pub AreNodes-none : AreNodes []
AreNodes-none = record {
  few = omega arith;
  few_leaves = omega arith;
  few_aliases = omega arith;
  preorder = IsPreorder-none;
  items = All-nil HasItems;
  few_named = λ n h. absurd (omega arith);
}

-- one more node passes no limit where it is not refused
leaf_room : (kind : Kind) (leaves aliases : ℕ) → is_kind_full kind leaves aliases ≡ false → leaves ≤ leaf_limit → leaves + cond (is_leaf kind) 1 0 ≤ leaf_limit
leaf_room Set leaves aliases h few = omega arith
leaf_room Group leaves aliases h few = omega arith
leaf_room Leaf leaves aliases h few = omega (arith, leb-false leaf_limit leaves h)
leaf_room Alias leaves aliases h few = omega arith

alias_room : (kind : Kind) (leaves aliases : ℕ) → is_kind_full kind leaves aliases ≡ false → aliases ≤ alias_limit → aliases + cond (is_alias kind) 1 0 ≤ alias_limit
alias_room Set leaves aliases h few = omega arith
alias_room Group leaves aliases h few = omega arith
alias_room Leaf leaves aliases h few = omega arith
alias_room Alias leaves aliases h few = omega (arith, leb-false alias_limit aliases h)

pub leaf_count-push : (nodes : List FlatNode) (node : FlatNode) → leaf_count (nodes ++ node ∷ []) ≡ leaf_count nodes + cond (is_leaf node.kind) 1 0
leaf_count-push nodes node = count_by_push (λ other. is_leaf other.kind) nodes node

pub alias_count-push : (nodes : List FlatNode) (node : FlatNode) → alias_count (nodes ++ node ∷ []) ≡ alias_count nodes + cond (is_alias node.kind) 1 0
alias_count-push nodes node = count_by_push (λ other. is_alias other.kind) nodes node

-- the named items above a place are few
named_up-le : (nodes : List FlatNode) → AreNodes nodes → (parent : Option ℕ) → IsPlace (parents_of nodes) parent → named_up nodes parent ≤ named_limit
named_up-le nodes are None place = omega arith
named_up-le nodes are (Some p) place = are.few_named p (omega (arith, IsPlace-lt (parents_of nodes) p place, length-parents_of nodes))

-- numbers below one more are those below and the last
named_below : (nodes : List FlatNode) (node : FlatNode) → ((n : ℕ) → n < length nodes → named_on nodes n ≤ named_limit) → named_in node.items + named_up nodes node.parent ≤ named_limit → (n : ℕ) → n < length (nodes ++ node ∷ []) → named_on (nodes ++ node ∷ []) n ≤ named_limit
named_below nodes node before last n h = go (cases_lt n (length nodes))
  where
    go : (n < length nodes) ⊎ (length nodes ≤ n) → named_on (nodes ++ node ∷ []) n ≤ named_limit
    go (inl lt) = omega (arith, named_on-append nodes (node ∷ []) n lt, before n lt)
    go (inr past) =
        let same : length nodes ≡ n = omega (arith, length_push nodes node) in
        omega (arith, ap (λ k. named_on (nodes ++ node ∷ []) k) same, named_on-push nodes node)

pub AreNodes-push : (nodes : List FlatNode) (node : FlatNode) → AreNodes nodes → node.items ≡ [] → IsPlace (parents_of nodes) node.parent → is_node_refused nodes node.kind ≡ false
    → AreNodes (nodes ++ node ∷ [])
AreNodes-push nodes node are none place room =
    let parts = or_parts (nat_le node_limit (length nodes)) (is_kind_full node.kind (leaf_count nodes) (alias_count nodes)) room in
    let leaves = leaf_room node.kind (leaf_count nodes) (alias_count nodes) parts.1 are.few_leaves in
    let aliases = alias_room node.kind (leaf_count nodes) (alias_count nodes) parts.1 are.few_aliases in
    let unnamed : named_in node.items ≡ 0 = ap named_in none in
    record {
      few = omega (arith, length_push nodes node, leb-false node_limit (length nodes) parts.0);
      few_leaves = omega (arith, leaf_count-push nodes node);
      few_aliases = omega (arith, alias_count-push nodes node);
      preorder = subst IsPreorder (sym (parents_of-append nodes (node ∷ []))) (IsPreorder-push (parents_of nodes) node.parent are.preorder place);
      items = All-push HasItems nodes node are.items (subst AreItems (sym none) AreItems-none);
      few_named = named_below nodes node are.few_named (omega (arith, unnamed, named_up-le nodes are node.parent place));
    }

-- the last node and one more item of it
abbrev pub grown : FlatNode → FlatItem → FlatNode
grown node it = record node { items = node.items ++ it ∷ [] }

named_room : (named : Bool) (count : ℕ) → (named && nat_le named_limit count) ≡ false → count ≤ named_limit → count + cond named 1 0 ≤ named_limit
named_room true count h few = omega (arith, leb-false named_limit count h)
named_room false count h few = omega arith

pub AreNodes-item : (nodes : List FlatNode) (node : FlatNode) (it : FlatItem) → AreNodes (nodes ++ node ∷ []) → IsItem it → is_taken node.items it.name ≡ false → is_item_refused (nodes ++ node ∷ []) it ≡ false
    → AreNodes (nodes ++ grown node it ∷ [])
AreNodes-item nodes node it are is free room =
    let last : length (nodes ++ node ∷ []) - 1 ≡ length nodes = omega (arith, length_push nodes node) in
    let parts = or_parts (nat_le item_limit (length (last_items (nodes ++ node ∷ [])))) (is_some it.name && nat_le named_limit (named_on (nodes ++ node ∷ []) (length (nodes ++ node ∷ []) - 1))) room in
    let few_items = leb-false item_limit (length (last_items (nodes ++ node ∷ []))) parts.0 in
    let split = All-pop HasItems (nodes ++ node ∷ []) nodes (Some node) refl are.items in
    let on_last : named_on (nodes ++ node ∷ []) (length (nodes ++ node ∷ []) - 1) ≡ named_in node.items + named_up nodes node.parent = ap (named_on (nodes ++ node ∷ [])) last ∙ named_on-push nodes node in
    let few_before = are.few_named (length nodes) (omega (arith, length_push nodes node)) in
    let few_named = named_room (is_some it.name) (named_in node.items + named_up nodes node.parent) (ap (λ n. is_some it.name && nat_le named_limit n) (sym on_last) ∙ parts.1) (omega (arith, named_on-push nodes node)) in
    let counted = count_by_push (λ other. is_some other.name) node.items it in
    record {
      few = omega (arith, length_push nodes node, length_push nodes (grown node it), are.few);
      few_leaves = omega (arith, leaf_count-push nodes node, leaf_count-push nodes (grown node it), are.few_leaves);
      few_aliases = omega (arith, alias_count-push nodes node, alias_count-push nodes (grown node it), are.few_aliases);
      preorder = subst IsPreorder (parents_of-append nodes (node ∷ []) ∙ sym (parents_of-append nodes (grown node it ∷ []))) are.preorder;
      items = All-push HasItems nodes (grown node it) split.0 (AreItems-push node.items it split.1 is free (omega (arith, ap length (last_items-push nodes node))));
      few_named =
          named_below nodes (grown node it) (λ n h. let low = are.few_named n (omega (arith, length_push nodes node)) in omega (arith, named_on-append nodes (node ∷ []) n h)) (omega arith);
    }

-- what a node says in its expressions does not matter
pub AreNodes-saying : (nodes : List FlatNode) (node : FlatNode) (condition preferred : Option (ExprOf ℕ)) → AreNodes (nodes ++ node ∷ []) → AreNodes (nodes ++ (record node { condition = condition; preferred = preferred }) ∷ [])
AreNodes-saying nodes node condition preferred are =
    let new = record node { condition = condition; preferred = preferred } in
    let split = All-pop HasItems (nodes ++ node ∷ []) nodes (Some node) refl are.items in
    let last = are.few_named (length nodes) (omega (arith, length_push nodes node)) in
    record {
      few = omega (arith, length_push nodes node, length_push nodes new, are.few);
      few_leaves = omega (arith, leaf_count-push nodes node, leaf_count-push nodes new, are.few_leaves);
      few_aliases = omega (arith, alias_count-push nodes node, alias_count-push nodes new, are.few_aliases);
      preorder = subst IsPreorder (parents_of-append nodes (node ∷ []) ∙ sym (parents_of-append nodes (new ∷ []))) are.preorder;
      items = All-push HasItems nodes new split.0 split.1;
      few_named =
          named_below nodes new (λ n h. let low = are.few_named n (omega (arith, length_push nodes node)) in omega (arith, named_on-append nodes (node ∷ []) n h)) (omega (arith, named_on-push nodes node, last));
    }
