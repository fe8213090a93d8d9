-- No node of the tree of an accepted document has more named items on its path than may be.
use Rattle.std.proofs.Common.{◌≡◌, ◌∙◌, refl, ℕ, ◌+◌, ◌≤◌, Bool, true, false, cond, List, [], ◌∷◌, ◌++◌, length, Option, Some, None, Ok, codes, arith}
use Rattle.std.specs.Prelude.{⊤, IfSome, is_some, option_to_list, nat_le, nat_lt}
use Rattle.std.specs.List.{AllByRecursion}
use Rattle.std.proofs.lemmas.Bool.{and_parts, leb-true}
use Rattle.std.proofs.lemmas.List.Sums.{sum_by-append, sum_by-cons}
use Rattle.serde_json.specs.Data.{Items, no_items, item as one}
use Rattle.spec_bits.specs.Item.{Item}
use Rattle.spec_walk.specs.Pointer.{element}
use Rattle.spec_walk.specs.Event.{NoSet, TooMany}
use Rattle.spec_walk.specs.Limits.{Counts}
use Rattle.spec_walk.specs.Walk.{Walk, Done, Stop, Meet, ◌>>>◌, gives}
use Rattle.spec_walk.specs.Spot.{Spot, spot, unless, needs, an_object, elements, needed, optional, kind, each}
use Rattle.spec_walk.specs.Descend.{Inside, inside_of}
use Rattle.spec_walk.proofs.EveryLaws.{Every, every-any, every-gives, every-then, every-next, every-unless, every-each, EveryInside, every-inside}
use Rattle.spec_expressions.specs.Reading.{expression}
use Rattle.spec_instructions.specs.Limits.{named_limit}
use Rattle.spec_instructions.specs.Kind.{Kind, Set, Group, Leaf, Alias, Instance, kinds_in, kind_named}
use Rattle.spec_instructions.specs.Encodeset.{item_kind_named, item_parts, named_in, within_limits, item, encodeset}
use Rattle.spec_instructions.specs.Tree.{Node, node, Nodes, no_nodes, more}
use Rattle.spec_instructions.proofs.OwnLaws.{encodeset-every, own-every}
use Rattle.spec_instructions.specs.Walk.{node_name, own, Above, nodes_of, node_of, alias_of, child_of, child, chosen_in, is_chosen, set_of, set, instructions}

-- ---- named items of a node

pub named-append : (xs ys : List Item) → named_in (xs ++ ys) ≡ named_in xs + named_in ys
named-append xs ys = sum_by-append (λ (it : Item). cond (is_some it.name) 1 0) xs ys

named-one : (it : Item) → named_in (it ∷ []) ≡ length (option_to_list it.name)
named-one it = sum_by-cons (λ (it : Item). cond (is_some it.name) 1 0) it [] ∙ go it.name
  where
    go : (o : Option (List ℕ)) → cond (is_some o) 1 0 + 0 ≡ length (option_to_list o)
    go None = refl
    go (Some s) = refl

module _ (above : ℕ) where
  -- with those above it, no more than may be
  abbrev pub Fits : List Item → Type 0
  Fits items = above + named_in items ≤ named_limit

  item_fits : (earlier : List Item) (here : Spot) → Every (λ it. Fits (earlier ++ it ∷ [])) (item (above + named_in earlier) earlier here)
  item_fits earlier here =
      every-next _ (kind item_kind_named here >>> item_parts earlier here) _ (λ it.
      every-then (λ _. within_limits (length earlier) (above + named_in earlier + length (option_to_list it.name)) ≡ true) _
      (unless (within_limits (length earlier) (above + named_in earlier + length (option_to_list it.name))) here TooMany) (λ _. Done it)
      (every-unless (within_limits (length earlier) (above + named_in earlier + length (option_to_list it.name))) here TooMany) (λ _ is.
      let le = leb-true (above + named_in earlier + length (option_to_list it.name)) named_limit (and_parts (nat_lt (length earlier) 64) (nat_le (above + named_in earlier + length (option_to_list it.name)) named_limit) is).1 in
      omega (arith, le, named-append earlier (it ∷ []), named-one it)))

  each_fits : (at : List ℕ) (before : List Item) (ds : Items) → Fits before → Every Fits (each (λ earlier. item (above + named_in earlier) earlier) at before ds)
  each_fits at before no_items h = h
  each_fits at before (one d ds) h =
      every-then (λ it. Fits (before ++ it ∷ [])) Fits (item (above + named_in before) before (spot (element at (length before)) d)) (λ x. each (λ earlier. item (above + named_in earlier) earlier) at (before ++ x ∷ []) ds)
      (item_fits before (spot (element at (length before)) d)) (λ it fits. each_fits at (before ++ it ∷ []) ds fits)

  items_fit : (here : Spot) → above ≤ named_limit → Every Fits (encodeset above here)
  items_fit here le =
      encodeset-every Fits above here (λ list ds. each_fits list.at [] ds (omega (arith, le)))

  own_fits : (k : Kind) (here : Spot) → above ≤ named_limit → Every (λ o. Fits o.items) (own k above here)
  own_fits k here le =
      own-every (λ _. ⊤) Fits (λ o. Fits o.items) k above here (every-any (node_name here)) (omega (arith, le)) (λ inner. items_fit inner le) (λ name items condition _ fits. fits)

-- ---- nodes below nodes

abbrev mutual
  -- behind so many named items, no node has more on its path than may be
  pub HasFew : ℕ → Node → Type 0
  HasFew above (node own kids) = Fits above own.items × HaveFew (above + named_in own.items) kids

  pub HaveFew : ℕ → Nodes → Type 0
  HaveFew above no_nodes = ⊤
  HaveFew above (more n ns) = HasFew above n × HaveFew above ns

-- an element of `children` of an owner
abbrev Below : Above → Option Node → Type 0
Below above o = above.named ≤ named_limit → IfSome o (HasFew above.named)

below_all : (above : Above) (found : List (Option Node)) → above.named ≤ named_limit → AllByRecursion (Below above) found → HaveFew above.named (nodes_of found)
below_all above [] le h = tt
below_all above (None ∷ found) le h = below_all above found le h.1
below_all above (Some n ∷ found) le h = (h.0 le, below_all above found le h.1)

node_few : (k : Kind) (above : ℕ) (here : Spot) (inside : Inside Above (Option Node)) → EveryInside Below inside → above ≤ named_limit → Every (HasFew above) (node_of k above here inside)
node_few k above here inside keeps le =
    every-then (λ o. Fits above o.items) (HasFew above) (own k above here) _ (own_fits above k here le) (λ o fits.
    every-then (AllByRecursion (Below (record { owner = k; named = above + named_in o.items }))) (HasFew above) (inside.optional_parts (record { owner = k; named = above + named_in o.items }) (codes "children")) _
    (keeps.optional_parts (record { owner = k; named = above + named_in o.items }) (codes "children")) (λ found h. (fits, below_all (record { owner = k; named = above + named_in o.items }) found fits h)))

alias_few : (above : ℕ) (here : Spot) → above ≤ named_limit → Every (HasFew above) (alias_of above here)
alias_few above here le =
    every-then (λ o. Fits above o.items) (HasFew above) (own Alias above here) _ (own_fits above Alias here le) (λ o fits.
    every-next (HasFew above) (optional (codes "preferred") expression here) _ (λ preferred. (fits, tt)))

child_few : (above : Above) (here : Spot) (inside : Inside Above (Option Node)) → EveryInside Below inside → Every (Below above) (child above here inside)
child_few above here inside keeps = every-next (Below above) (kind (kind_named (kinds_in above.owner)) here) (child_of above.named here inside) of_kind
  where
    some : (walk : Walk Node) → (above.named ≤ named_limit → Every (HasFew above.named) walk) → Every (Below above) (walk >>> λ n. Done (Some n))
    some walk every = every-then (λ n. above.named ≤ named_limit → HasFew above.named n) (Below above) walk (λ n. Done (Some n)) (under walk every) (λ n h. h)
      where
        under : (walk : Walk Node) → (above.named ≤ named_limit → Every (HasFew above.named) walk) → Every (λ n. above.named ≤ named_limit → HasFew above.named n) walk
        under (Done n) every = every
        under (Stop f) every = tt
        under (Meet e w) every = under w every

    of_kind : (k : Kind) → Every (Below above) (child_of above.named here inside k)
    of_kind Set = some (node_of Set above.named here inside) (node_few Set above.named here inside keeps)
    of_kind Group = some (node_of Group above.named here inside) (node_few Group above.named here inside keeps)
    of_kind Leaf = some (node_of Leaf above.named here inside) (node_few Leaf above.named here inside keeps)
    of_kind Alias = some (alias_of above.named here) (alias_few above.named here)
    of_kind Instance = λ le. tt

-- ---- the document

set_few : (isa : List ℕ) (before : List (Option Node)) (here : Spot) → Every (λ o. IfSome o (HasFew 0)) (set isa before here)
set_few isa before here =
    every-next _ (kind (kind_named (Set ∷ [])) here) _ (λ _.
    every-next _ (is_chosen isa before here) (set_of here) chosen)
  where
    chosen : (b : Bool) → Every (λ o. IfSome o (HasFew 0)) (set_of here b)
    chosen false = tt
    chosen true =
        every-then (HasFew 0) (λ o. IfSome o (HasFew 0)) (node_of Set 0 here (inside_of child here)) (λ n. Done (Some n)) (node_few Set 0 here (inside_of child here) (every-inside Below child child_few here) (omega arith)) (λ n few. few)

chosen_few : (found : List (Option Node)) → AllByRecursion (λ o. IfSome o (HasFew 0)) found → IfSome (chosen_in found) (HasFew 0)
chosen_few [] h = tt
chosen_few (None ∷ found) h = chosen_few found h.1
chosen_few (Some n ∷ found) h = h.0

needs_few : (o : Option Node) (here : Spot) → IfSome o (HasFew 0) → Every (HasFew 0) (needs o here NoSet)
needs_few None here h = tt
needs_few (Some n) here h = h

tree_few : (isa : List ℕ) (here : Spot) → Every (HasFew 0) (instructions isa here)
tree_few isa here =
    every-next (HasFew 0) (an_object here) _ (λ _.
    every-next (HasFew 0) (needed (codes "instructions") here) _ (λ list.
    every-then (AllByRecursion (λ o. IfSome o (HasFew 0))) (HasFew 0) (elements list >>> each (set isa) list.at []) _
    (every-next _ (elements list) (each (set isa) list.at []) (λ ds. every-each (λ o. IfSome o (HasFew 0)) (set isa) list.at [] ds (λ before inner _. set_few isa before inner) tt))
    (λ found h. needs_few (chosen_in found) list (chosen_few found h))))

-- the tree that a document gives has few named items on each path
pub read_few : (isa : List ℕ) (here : Spot) (before after : Counts) (tree : Node) → gives (instructions isa here) before ≡ Ok (tree, after) → HasFew 0 tree
read_few isa here before after tree e = every-gives (HasFew 0) (instructions isa here) before after tree (tree_few isa here) e
