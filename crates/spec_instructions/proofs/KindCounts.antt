-- The nodes of a kind in the tree of an accepted document are no more than the things that are counted for them while it is read.
use Rattle.std.proofs.Common.{◌≡◌, refl, ℕ, ◌+◌, ◌≤◌, Bool, true, false, List, [], ◌∷◌, Option, Some, None, Ok, codes, arith}
use Rattle.std.proofs.lemmas.List.Sums.{sum_by-cons}
use Rattle.spec_walk.specs.Event.{Thing, Event, NoSet}
use Rattle.spec_walk.specs.Limits.{Counts}
use Rattle.spec_walk.specs.FirstFault as thing
use Rattle.spec_walk.specs.FirstFault.{limit_of}
use Rattle.spec_walk.specs.Walk.{Walk, Done, ◌>>>◌, gives}
use Rattle.spec_walk.specs.Spot.{Spot, an_object, elements, needed, needs, optional, kind, each, named}
use Rattle.spec_walk.specs.Descend.{Inside, inside_of}
use Rattle.spec_walk.proofs.CountLaws.{cost, Covers, beside, all_of, if_any, covers-gives, few-gives, covers-then, covers-next, more-before, covers-each, CoversInside, ReaderCovers, covers-inside}
use Rattle.spec_expressions.specs.Reading.{expression}
use Rattle.spec_instructions.specs.Kind.{Kind, Set, Group, Leaf, Alias, Instance, kinds_in, kind_named}
use Rattle.spec_instructions.specs.Encodeset.{named_in, encodeset}
use Rattle.spec_instructions.specs.Tree.{Own, Node, node, Nodes, no_nodes, more}
use Rattle.spec_instructions.specs.Walk.{node_name, counted, own, Above, nodes_of, node_of, alias_of, child_of, child, chosen_in, is_chosen, set_of, set, instructions}

-- ---- nodes of a tree

-- how much the nodes of a tree come to, each as much as one of its kind does
abbrev mutual
  pub count_in : (Kind → ℕ) → Node → ℕ
  count_in per (node own kids) = per own.kind + count_among per kids

  pub count_among : (Kind → ℕ) → Nodes → ℕ
  count_among per no_nodes = 0
  count_among per (more n ns) = count_in per n + count_among per ns

-- events count a node of each kind for as much
abbrev pub IsCounted : (Event → ℕ) → (Kind → ℕ) → Type 0
IsCounted price per = (k : Kind) (here : Spot) (m : ℕ) → Covers price (λ _. per k + m) m (counted k here)

abbrev pub of_own : (Kind → ℕ) → Own → ℕ
of_own per o = per o.kind

abbrev of_maybe : (Kind → ℕ) → Option Node → ℕ
of_maybe per o = if_any (count_in per) o

found-count : (per : Kind → ℕ) (found : List (Option Node)) → count_among per (nodes_of found) ≡ all_of (of_maybe per) found
found-count per [] = refl
found-count per (None ∷ found) = omega (arith, found-count per found, sum_by-cons (of_maybe per) None found)
found-count per (Some n ∷ found) = omega (arith, found-count per found, sum_by-cons (of_maybe per) (Some n) found)

chosen-count : (per : Kind → ℕ) (found : List (Option Node)) → of_maybe per (chosen_in found) ≤ all_of (of_maybe per) found
chosen-count per [] = omega arith
chosen-count per (None ∷ found) = omega (arith, chosen-count per found, sum_by-cons (of_maybe per) None found)
chosen-count per (Some n ∷ found) = omega (arith, sum_by-cons (of_maybe per) (Some n) found)

-- ---- the walk over them

module _ (price : Event → ℕ) (per : Kind → ℕ) (is : IsCounted price per) where
  -- what a node says of itself
  own-covers : (k : Kind) (above : ℕ) (here : Spot) (m : ℕ) → Covers price (beside (of_own per) m) m (own k above here)
  own-covers k above here m =
      covers-next price (beside (of_own per) m) m (node_name here >>> named here) _ (λ name n1 le1.
      covers-then price (λ _. per k + n1) (beside (of_own per) m) n1 (counted k here) _ (is k here n1) (λ _ n2 le2.
      covers-next price (beside (of_own per) m) n2 (optional (codes "encoding") (encodeset above) here) _ (λ items n3 le3.
      covers-next price (beside (of_own per) m) n3 (optional (codes "condition") expression here) _ (λ condition n4 le4. omega (arith, le1, le2, le3, le4)))))

  node-covers : (k : Kind) (above : ℕ) (here : Spot) (inside : Inside Above (Option Node)) → CoversInside price (of_maybe per) inside → (m : ℕ) → Covers price (beside (count_in per) m) m (node_of k above here inside)
  node-covers k above here inside cover m =
      covers-then price (beside (of_own per) m) (beside (count_in per) m) m (own k above here) _ (own-covers k above here m) (λ o n1 le1.
      covers-then price (beside (all_of (of_maybe per)) n1) (beside (count_in per) m) n1 (inside.optional_parts (record { owner = k; named = above + named_in o.items }) (codes "children")) _
      (cover.optional_parts (record { owner = k; named = above + named_in o.items }) (codes "children") n1) (λ found n2 le2. omega (arith, le1, le2, found-count per found)))

  alias-covers : (above : ℕ) (here : Spot) (m : ℕ) → Covers price (beside (count_in per) m) m (alias_of above here)
  alias-covers above here m =
      covers-then price (beside (of_own per) m) (beside (count_in per) m) m (own Alias above here) _ (own-covers Alias above here m) (λ o n1 le1.
      covers-next price (beside (count_in per) m) n1 (optional (codes "preferred") expression here) _ (λ preferred n2 le2. omega (arith, le1, le2)))

  some-covers : (m : ℕ) (walk : Walk Node) → Covers price (beside (count_in per) m) m walk → Covers price (beside (of_maybe per) m) m (walk >>> λ n. Done (Some n))
  some-covers m walk cover = covers-then price (beside (count_in per) m) (beside (of_maybe per) m) m walk (λ n. Done (Some n)) cover (λ n k le. le)

  child-covers : ReaderCovers price (of_maybe per) child
  child-covers above here inside cover m = covers-next price (beside (of_maybe per) m) m (kind (kind_named (kinds_in above.owner)) here) (child_of above.named here inside) of_kind
    where
      of_kind : (k : Kind) (n : ℕ) → m ≤ n → Covers price (beside (of_maybe per) m) n (child_of above.named here inside k)
      of_kind Set n le = more-before price (of_maybe per) m n (child_of above.named here inside Set) le (some-covers n (node_of Set above.named here inside) (node-covers Set above.named here inside cover n))
      of_kind Group n le = more-before price (of_maybe per) m n (child_of above.named here inside Group) le (some-covers n (node_of Group above.named here inside) (node-covers Group above.named here inside cover n))
      of_kind Leaf n le = more-before price (of_maybe per) m n (child_of above.named here inside Leaf) le (some-covers n (node_of Leaf above.named here inside) (node-covers Leaf above.named here inside cover n))
      of_kind Alias n le = more-before price (of_maybe per) m n (child_of above.named here inside Alias) le (some-covers n (alias_of above.named here) (alias-covers above.named here n))
      of_kind Instance n le = omega (arith, le)

  set-covers : (isa : List ℕ) (before : List (Option Node)) (here : Spot) (m : ℕ) → Covers price (beside (of_maybe per) m) m (set isa before here)
  set-covers isa before here m =
      covers-next price (beside (of_maybe per) m) m (kind (kind_named (Set ∷ [])) here) _ (λ _ n1 le1.
      covers-next price (beside (of_maybe per) m) n1 (is_chosen isa before here) (set_of here) (λ b n2 le2. chosen b n2 (omega (arith, le1, le2))))
    where
      chosen : (b : Bool) (n : ℕ) → m ≤ n → Covers price (beside (of_maybe per) m) n (set_of here b)
      chosen false n le = omega (arith, le)
      chosen true n le =
          more-before price (of_maybe per) m n (set_of here true) le
          (some-covers n (node_of Set 0 here (inside_of child here)) (node-covers Set 0 here (inside_of child here) (covers-inside price (of_maybe per) child child-covers here) n))

  needs-covers : (o : Option Node) (here : Spot) (n : ℕ) → of_maybe per o ≤ n → Covers price (count_in per) n (needs o here NoSet)
  needs-covers None here n le = tt
  needs-covers (Some s) here n le = le

  tree-covers : (isa : List ℕ) (here : Spot) → Covers price (count_in per) 0 (instructions isa here)
  tree-covers isa here =
      covers-next price (count_in per) 0 (an_object here) _ (λ _ n1 le1.
      covers-next price (count_in per) n1 (needed (codes "instructions") here) _ (λ list n2 le2.
      covers-then price (beside (all_of (of_maybe per)) n2) (count_in per) n2 (elements list >>> each (set isa) list.at []) _
      (covers-next price (beside (all_of (of_maybe per)) n2) n2 (elements list) (each (set isa) list.at []) (λ ds k le. covers-each price (of_maybe per) (set isa) list.at [] ds n2 k (set-covers isa) (omega (arith, le))))
      (λ found n3 le3. needs-covers (chosen_in found) list n3 (omega (arith, le3, chosen-count per found)))))

-- the nodes of the tree that a document gives come to no more than there may be of the thing that is counted for them
pub read_count : (what : Thing) (per : Kind → ℕ) → IsCounted (cost what) per → (isa : List ℕ) (here : Spot) (before after : Counts) (tree : Node) → thing.counted what before ≡ 0 → gives (instructions isa here) before ≡ Ok (tree, after)
    → count_in per tree ≤ limit_of what
read_count what per is isa here before after tree none e =
    let some = covers-gives what (count_in per) 0 (instructions isa here) before after tree (tree-covers (cost what) per is isa here) e in
    let few = few-gives what (instructions isa here) before after tree (omega (arith, none)) e in
    omega (arith, some, few)
