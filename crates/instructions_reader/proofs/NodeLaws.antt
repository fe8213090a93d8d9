-- Laws of nodes that are read with those below them.
use Rattle.std.proofs.Common.{◌≡◌, ◌∙◌, sym, ap, subst, refl, ℕ, ◌+◌, ◌<◌, ◌≤◌, List, [], ◌∷◌, ◌++◌, length, get_or, append_assoc, add_assoc, append-nil, length-append, add-zero, Option, Some, None, unwrap_or, Result, codes}
use Rattle.serde_json.specs.View.{view, items_view}
use Rattle.serde_json.specs.declared.value.Value.{Value}
use Rattle.spec_walk.specs.Pointer.{element}
use Rattle.spec_walk.specs.Limits.{Counts}
use Rattle.spec_instructions.specs.Kind.{Kind, Set, Group, Leaf, Alias, Instance, kinds_in, kind_named}
use Rattle.spec_instructions.specs.Tree.{Own, Node, node, Nodes}
use Rattle.spec_walk.specs.Walk.{Walk, Done, ◌>>>◌, gives}
use Rattle.spec_walk.specs.Spot.{Spot, spot, kind, elements, each, member_at}
use Rattle.spec_walk.specs.Descend.{Inside, IsInside, inside_of, at_spot, elements_at}
use Rattle.spec_walk.proofs.WalkLaws.{gives-next}
use Rattle.spec_walk.proofs.DescendLaws.{then-same, descends}
use Rattle.spec_instructions.specs.Encodeset.{named_in}
use Rattle.spec_instructions.specs.Walk.{Above, own, node_of, child_of, child, nodes_of}
use Rattle.mrs_names.specs.Texts.{IsExtended}
use Rattle.mrs_names.proofs.PlaceLaws.{IsExtended-refl, IsExtended-trans}
use Rattle.mrs_arena.specs.Paths.{IsPlace}
use Rattle.mrs_arena.specs.Placed.{Placed, preorder, preorders}
use Rattle.mrs_walk.specs.Gives.{Fails, Ends, Puts}
use Rattle.mrs_walk.specs.declared.fault.ReadFault.{ReadFault}
use Rattle.mrs_walk.proofs.AnswerLaws.{Fails-then, Fails-same, Puts-same, Puts-then, Puts-last, optional-there}
use Rattle.mrs_walk.proofs.EachLaws.{EachRead, EachRead-none, EachRead-next, EachRead-fails, EachRead-all}
use Rattle.schema_draft.specs.Drafted.{Drafted, counts, parents, named_at}
use Rattle.instructions_reader.specs.Nodes.{named_above, children, whole}
use Rattle.schema_draft.proofs.PlacedLaws.{place_within, place_kept, place_new, named_kept}
use Rattle.instructions_reader.proofs.OwnLaws.{named_at-new}

-- ---- an object of a kind

node_of-whole : (k : Kind) (named : ℕ) (here : Spot) (inside : Inside Above (Option Node)) → IsInside child here inside → node_of k named here inside ≡ whole k named here
node_of-whole k named here inside is = then-same (own k named here) _ _ (λ o.
    ap (λ w. w >>> λ found. Done (node o (nodes_of found))) (is.optional_parts (record { owner = k; named = named + named_in o.items }) (codes "children")))

-- a child of a kind, in the words of its reader
abbrev pub child_walk : ℕ → Spot → Kind → Walk (Option Node)
child_walk named here k = child_of named here (inside_of child here) k

child_of-walk : (named : ℕ) (here : Spot) (inside : Inside Above (Option Node)) (k : Kind) → IsInside child here inside → child_of named here inside k ≡ child_walk named here k
child_of-walk named here inside Set is = ap (λ w. w >>> λ n. Done (Some n)) (node_of-whole Set named here inside is)
child_of-walk named here inside Group is = ap (λ w. w >>> λ n. Done (Some n)) (node_of-whole Group named here inside is)
child_of-walk named here inside Leaf is = ap (λ w. w >>> λ n. Done (Some n)) (node_of-whole Leaf named here inside is)
child_of-walk named here inside Alias is = refl
child_of-walk named here inside Instance is = refl

child_is : (above : Above) (here : Spot) → at_spot child above here ≡ kind (kind_named (kinds_in above.owner)) here >>> child_walk above.named here
child_is above here =
    let d = descends child above here.at here.value in
    d.walk ∙ then-same (kind (kind_named (kinds_in above.owner)) here) _ _ (λ k. child_of-walk above.named here d.inside k d.is)

-- a child whose kind is read
child_kind : (above : Above) (here : Spot) (k : Kind) → kind (kind_named (kinds_in above.owner)) here ≡ Done k → at_spot child above here ≡ child_walk above.named here k
child_kind above here k is = child_is above here ∙ ap (λ (w : Walk Kind). w >>> child_walk above.named here) is

-- ---- the nodes that are put

pub alone : (parent : Option ℕ) (n : ℕ) (t : Node) → preorders parent n (nodes_of (Some t ∷ [])) ≡ preorder parent n t
alone parent n t = append-nil (preorder parent n t)

front : (parent : Option ℕ) (n : ℕ) (xs : List Placed) (ts us : Nodes) (x : Option Node)
    → preorders parent (n + length xs) ts ≡ preorders parent (n + length xs) us ++ preorders parent (n + length xs + length (preorders parent (n + length xs) us)) (nodes_of (x ∷ []))
    → xs ++ preorders parent (n + length xs) ts ≡ (xs ++ preorders parent (n + length xs) us) ++ preorders parent (n + length (xs ++ preorders parent (n + length xs) us)) (nodes_of (x ∷ []))
front parent n xs ts us x h =
    ap (λ end. xs ++ end) h
    ∙ sym (append_assoc xs (preorders parent (n + length xs) us) _)
    ∙ ap (λ k. (xs ++ preorders parent (n + length xs) us) ++ preorders parent k (nodes_of (x ∷ []))) (add_assoc n (length xs) (length (preorders parent (n + length xs) us)) ∙ ap (λ k. n + k) (sym (length-append xs (preorders parent (n + length xs) us))))

-- one more child
preorders-more : (parent : Option ℕ) (n : ℕ) (found : List (Option Node)) (x : Option Node) → preorders parent n (nodes_of (found ++ x ∷ [])) ≡ preorders parent n (nodes_of found) ++ preorders parent (n + length (preorders parent n (nodes_of found))) (nodes_of (x ∷ []))
preorders-more parent n [] x = ap (λ k. preorders parent k (nodes_of (x ∷ []))) (sym (add-zero n))
preorders-more parent n (None ∷ found) x = preorders-more parent n found x
preorders-more parent n (Some t ∷ found) x = front parent n (preorder parent n t) (nodes_of (found ++ x ∷ [])) (nodes_of found) x (preorders-more parent (n + length (preorder parent n t)) found x)

nodes_more : (old : List Placed) (parent : Option ℕ) (found : List (Option Node)) (x : Option Node) (now new : List Placed) → now ≡ old ++ preorders parent (length old) (nodes_of found) → new ≡ now ++ preorders parent (length now) (nodes_of (x ∷ [])) → new ≡ old ++ preorders parent (length old) (nodes_of (found ++ x ∷ []))
nodes_more old parent found x now new is put =
    put
    ∙ ap (λ ns. ns ++ preorders parent (length ns) (nodes_of (x ∷ []))) is
    ∙ ap (λ k. (old ++ one) ++ preorders parent k (nodes_of (x ∷ []))) (length-append old one)
    ∙ append_assoc old one (preorders parent (length old + length one) (nodes_of (x ∷ [])))
    ∙ ap (λ end. old ++ end) (sym (preorders-more parent (length old) found x))
  where
    one : List Placed
    one = preorders parent (length old) (nodes_of found)

-- ---- the loop

-- how far the children of node p are read
pub record ChildrenRead (above : Above) (at : List ℕ) (p : ℕ) (old now : Drafted) (i : ℕ) (vs : List Value) : Type 0 where
  pub found : List (Option Node)
  pub each : EachRead (λ _. at_spot child above) at found (counts old) (counts now) i vs
  pub put : now.nodes ≡ old.nodes ++ preorders (Some p) (length old.nodes) (nodes_of found)
  pub place : IsPlace (parents now.nodes) (Some p)
  pub named : named_at now.nodes p ≡ above.named
  pub kept : IsExtended old.names now.names

pub ChildrenRead-none : (above : Above) (at : List ℕ) (p : ℕ) (old : Drafted) (vs : List Value) → IsPlace (parents old.nodes) (Some p) → named_at old.nodes p ≡ above.named → ChildrenRead above at p old old 0 vs
ChildrenRead-none above at p old vs place named = record { found = []; each = EachRead-none _ at (counts old) vs; put = sym (append-nil old.nodes); place = place; named = named; kept = IsExtended-refl old.names }

pub ChildrenRead-next : {above : Above} {at : List ℕ} {p : ℕ} {old now : Drafted} {i : ℕ} {vs : List Value} → ChildrenRead above at p old now i vs → (v : Value) → i < length vs → v ≡ get_or vs i v → (here : Spot) → here ≡ spot (element at i) (view v) → (new : Drafted)
    → Ends (at_spot child (record { owner = above.owner; named = named_at now.nodes p }) here) (counts now) (counts new) (λ x. new.nodes ≡ now.nodes ++ preorders (Some p) (length now.nodes) (nodes_of (x ∷ []))) → IsExtended now.names new.names → ChildrenRead above at p old new (i + 1) vs
ChildrenRead-next {above} {at} {p} {old} {now} {i} {vs} r v within is here at_it new e kept = record {
  found = r.found ++ e.value ∷ [];
  each = EachRead-next r.each v within is here at_it e.value (counts new) (ap (λ n. gives (at_spot child (record { owner = above.owner; named = n }) here) (counts now)) (sym r.named) ∙ e.walked);
  put = nodes_more old.nodes (Some p) r.found e.value now.nodes new.nodes r.put e.stands;
  place = subst (λ (ns : List Placed). IsPlace (parents ns) (Some p)) (sym e.stands) (place_kept now.nodes p (nodes_of (e.value ∷ [])) r.place);
  named = ap (λ nodes. named_at nodes p) e.stands ∙ named_kept now.nodes (preorders (Some p) (length now.nodes) (nodes_of (e.value ∷ []))) p (place_within now.nodes p r.place) ∙ r.named;
  kept = IsExtended-trans old.names now.names new.names r.kept kept;
}

pub ChildrenRead-fails : {above : Above} {at : List ℕ} {p : ℕ} {old now : Drafted} {i : ℕ} {vs : List Value} → ChildrenRead above at p old now i vs → (v : Value) → i < length vs → v ≡ get_or vs i v → (here : Spot) → here ≡ spot (element at i) (view v) → (f : ReadFault)
    → Fails f (gives (at_spot child (record { owner = above.owner; named = named_at now.nodes p }) here) (counts now)) → Fails f (gives (each (λ _. at_spot child above) at [] (items_view vs)) (counts old))
ChildrenRead-fails {above} {at} {p} {old} {now} r v within is here at_it f h =
    EachRead-fails r.each v within is here at_it f (Fails-same f _ _ (ap (λ n. gives (at_spot child (record { owner = above.owner; named = n }) here) (counts now)) (sym r.named)) h)

-- the array of children
abbrev found_or_none : Option (List (Option Node)) → Walk (List (Option Node))
found_or_none found = Done (unwrap_or found [])

abbrev all_of : Above → Spot → List Value → Walk (List (Option Node))
all_of above list vs = each (λ _. at_spot child above) list.at [] (items_view vs)

listed_is : (above : Above) (here list : Spot) (vs : List Value) → Some list ≡ member_at (codes "children") here → elements list ≡ Done (items_view vs) → children above here ≡ (all_of above list vs >>> λ x. Done (Some x)) >>> found_or_none
listed_is above here list vs there is =
    ap (λ w. w >>> found_or_none) (optional-there (codes "children") (elements_at child above) here list there ∙ ap (λ w. (w >>> each (λ _. at_spot child above) list.at []) >>> λ x. Done (Some x)) is)

pub children_fail : (f : ReadFault) (above : Above) (here list : Spot) (vs : List Value) (c : Counts) → Some list ≡ member_at (codes "children") here → elements list ≡ Done (items_view vs) → Fails f (gives (all_of above list vs) c) → Fails f (gives (children above here) c)
children_fail f above here list vs c there is h =
    Fails-same f _ _ (ap (λ w. gives w c) (listed_is above here list vs there is)) (Fails-then f (all_of above list vs >>> λ x. Done (Some x)) found_or_none c (Fails-then f (all_of above list vs) (λ x. Done (Some x)) c h))

pub children_return : {above : Above} {p : ℕ} {old now : Drafted} {i : ℕ} (here list : Spot) (vs : List Value) → Some list ≡ member_at (codes "children") here → elements list ≡ Done (items_view vs) → ChildrenRead above list.at p old now i vs → length vs ≤ i
    → Ends (children above here) (counts old) (counts now) (λ found. now.nodes ≡ old.nodes ++ preorders (Some p) (length old.nodes) (nodes_of found))
children_return {above} {p} {old} {now} here list vs there is r past = record {
  value = r.found;
  walked =
      ap (λ w. gives w (counts old)) (listed_is above here list vs there is)
      ∙ gives-next (all_of above list vs >>> λ x. Done (Some x)) found_or_none (counts old) (counts now) (Some r.found) (gives-next (all_of above list vs) (λ x. Done (Some x)) (counts old) (counts now) r.found (EachRead-all r.each past));
  stands = r.put;
}

-- ---- a node and those below it

-- a node that stands last, below its parent
pub record IsLast (old now : List Placed) (parent : Option ℕ) (o : Own) (n : ℕ) : Type 0 where
  pub place : IsPlace (parents old) parent
  pub number : n ≡ length old
  pub nodes : now ≡ old ++ record { parent = parent; own = o } ∷ []

pub last-place : {old now : List Placed} {parent : Option ℕ} {o : Own} {n : ℕ} → IsLast old now parent o n → IsPlace (parents now) (Some n)
last-place {old} {now} {parent} {o} {n} p = rw (p.nodes, p.number) (place_new old (record { parent = parent; own = o }))

last-named : {old now : List Placed} {parent : Option ℕ} {o : Own} {n : ℕ} → IsLast old now parent o n → named_at now n ≡ named_above old parent + named_in o.items
last-named {old} {now} {parent} {o} {n} p = ap (λ nodes. named_at nodes n) p.nodes ∙ ap (named_at (old ++ record { parent = parent; own = o } ∷ [])) p.number ∙ named_at-new old parent o p.place

last-tree : {old now : List Placed} {parent : Option ℕ} {o : Own} {n : ℕ} → IsLast old now parent o n → (ts : Nodes) (new : List Placed) → new ≡ now ++ preorders (Some n) (length now) ts → new ≡ old ++ preorder parent (length old) (node o ts)
last-tree {old} {now} {parent} {o} {n} p ts new is =
    is
    ∙ ap (λ nodes. nodes ++ preorders (Some n) (length nodes) ts) p.nodes
    ∙ ap (λ k. (old ++ one ∷ []) ++ preorders (Some k) (length (old ++ one ∷ [])) ts) p.number
    ∙ ap (λ k. (old ++ one ∷ []) ++ preorders (Some (length old)) k ts) (length-append old (one ∷ []))
    ∙ append_assoc old (one ∷ []) (preorders (Some (length old)) (length old + 1) ts)
  where
    one : Placed
    one = record { parent = parent; own = o }

pub whole_returns : {T : Type 0} (r : Result T ReadFault) (old mid new : Drafted) (parent : Option ℕ) (k : Kind) (here : Spot) (n : ℕ) → IsPlace (parents old.nodes) parent
    → (e : Ends (own k (named_above old.nodes parent) here) (counts old) (counts mid) (λ o. (n ≡ length old.nodes) × (mid.nodes ≡ old.nodes ++ record { parent = parent; own = o } ∷ [])))
    → Puts r (children (record { owner = k; named = named_at mid.nodes n }) here) (counts mid) (counts new) (λ found _. new.nodes ≡ mid.nodes ++ preorders (Some n) (length mid.nodes) (nodes_of found))
    → Puts r (whole k (named_above old.nodes parent) here) (counts old) (counts new) (λ t _. new.nodes ≡ old.nodes ++ preorder parent (length old.nodes) t)
whole_returns r old mid new parent k here n place e h =
    Puts-then r (own k (named_above old.nodes parent) here) _ e.value (counts old) (counts mid) (counts new) _ e.walked
    (Puts-last r (kids (named_above old.nodes parent + named_in e.value.items)) (λ found. node e.value (nodes_of found)) (counts mid) (counts new) _ _ (λ found x is. last-tree last (nodes_of found) new.nodes is)
    (Puts-same r (kids (named_at mid.nodes n)) (kids (named_above old.nodes parent + named_in e.value.items)) (counts mid) (counts new) _ (ap kids (sym (last-named last))) h))
  where
    kids : ℕ → Walk (List (Option Node))
    kids named = children (record { owner = k; named = named }) here

    last : IsLast old.nodes mid.nodes parent e.value n
    last = record { place = place; number = e.stands.0; nodes = e.stands.1 }

-- a child that is a node, by the walk over it
pub child_returns : {T : Type 0} (r : Result T ReadFault) (old new : Drafted) (p : ℕ) (above : Above) (here : Spot) (k : Kind) (walk : Walk Node) → kind (kind_named (kinds_in above.owner)) here ≡ Done k → child_walk above.named here k ≡ walk >>> (λ n. Done (Some n))
    → Puts r walk (counts old) (counts new) (λ n _. new.nodes ≡ old.nodes ++ preorder (Some p) (length old.nodes) n) → Puts r (at_spot child above here) (counts old) (counts new) (λ found _. new.nodes ≡ old.nodes ++ preorders (Some p) (length old.nodes) (nodes_of (found ∷ [])))
child_returns r old new p above here k walk is goes h =
    Puts-same r _ _ (counts old) (counts new) _ (child_kind above here k is ∙ goes)
    (Puts-last r walk Some (counts old) (counts new) _ _ (λ n x put. put ∙ ap (λ ns. old.nodes ++ ns) (sym (alone (Some p) (length old.nodes) n))) h)
