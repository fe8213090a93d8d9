-- The tree of an accepted document has its shape.
use Rattle.std.proofs.Common.{◌≡◌, ◌≢◌, ◌⊎◌, inl, inr, refl, sym, ap, subst, ℕ, suc, Bool, true, false, not, cond, List, [], ◌∷◌, Option, Some, None, find, unwrap_or, Ok, length, codes}
use Rattle.std.specs.Prelude.{◌&&◌, Result, Err, ◌==◌, ◌+◌, ◌^◌, IfSome, bytes_eq, option_to_list, nat_le, ◌≤◌, map}
use Rattle.std.specs.List.{AllByRecursion, list_any}
use Rattle.std.proofs.lemmas.Bool.{leb-true, eqb-true}
use Rattle.std.proofs.lemmas.List.{length-map}
use Rattle.spec_bits.specs.Pattern.{Digit}
use Rattle.spec_bits.specs.PatternText.{PatternRefusal, pattern_in}
use Rattle.spec_bits.specs.Item.{Item}
use Rattle.spec_walk.specs.Event.{BadName, BadRange, Doubled, NoSet, UnlistedKind, TooMany}
use Rattle.spec_walk.specs.Limits.{Counts}
use Rattle.spec_walk.specs.Walk.{Walk, Done, ◌>>>◌, gives}
use Rattle.spec_walk.specs.Spot.{Spot, unless, needs, an_object, elements, text, needed, optional, kind, kind_text, exactly, number_below, named, each}
use Rattle.spec_walk.specs.Descend.{Inside, inside_of}
use Rattle.spec_walk.proofs.EveryLaws.{Every, every-gives, every-then, every-next, every-unless, every-each, EveryInside, every-inside}
use Rattle.spec_expressions.specs.Reading.{expression}
use Rattle.spec_instructions.specs.Name.{is_name}
use Rattle.spec_instructions.specs.Kind.{Kind, Set, Group, Leaf, Alias, Instance, kinds_in, kind_named}
use Rattle.spec_instructions.specs.Encodeset.{ItemKind, Bits, Field, ShouldBeBits, item_kind_named, is_range, range, pattern, value, is_binary, marked_by, masked, should_be, is_field_name, names_of, field_name, item_parts, named_in, within_limits, item, encodeset}
use Rattle.spec_instructions.specs.Tree.{Own, Node}
use Rattle.spec_instructions.proofs.OwnLaws.{encodeset-every, own-every}
use Rattle.spec_instructions.specs.Walk.{node_name, own, Above, nodes_of, node_of, alias_of, child_of, child, chosen_in, is_chosen, set_of, set, instructions}
use Rattle.spec_instructions.specs.Shape.{IsAmong, MayStand, node_kind, IsShaped, AreShaped, IsSoundItem, IsSoundOwn, IsSound, AreSound, IsSetTree}

-- ---- what is found is one of those among which it was looked for

found_among : (test : Kind → Bool) (kinds : List Kind) (k : Kind) → find test kinds ≡ Some k → IsAmong k kinds
found_among test [] k e = absurd cc
found_among test (l ∷ kinds) k e = go (test l) e (found_among test kinds k)
  where
    go : (b : Bool) → cond b (Some l) (find test kinds) ≡ Some k → (find test kinds ≡ Some k → IsAmong k kinds) → (k ≡ l) ⊎ IsAmong k kinds
    go true h later = inl cc
    go false h later = inr (later h)

among-kind : (kinds : List Kind) (here : Spot) → Every (λ k. IsAmong k kinds) (kind (kind_named kinds) here)
among-kind kinds here = every-next (λ k. IsAmong k kinds) (kind_text here) (λ s. needs (kind_named kinds s) here UnlistedKind)
    (λ s. go (kind_named kinds s) (λ k e. found_among _ kinds k e))
  where
    go : (o : Option Kind) → ((k : Kind) → o ≡ Some k → IsAmong k kinds) → Every (λ k. IsAmong k kinds) (needs o here UnlistedKind)
    go None is = tt
    go (Some k) is = is k refl

-- ---- names of fields

field_named : (earlier : List Item) (here : Spot) → Every (λ s. is_field_name s ≡ true) (field_name earlier here)
field_named earlier here =
    every-next _ (needed (codes "name") here) _ (λ place.
    every-next _ (text place) _ (λ s.
    every-then (λ _. is_field_name s ≡ true) _ (unless (is_field_name s) place BadName) _ (every-unless (is_field_name s) place BadName) (λ _ is.
    every-next _ (unless (not (list_any (bytes_eq s) (names_of earlier))) place Doubled) _ (λ _. is))))

-- ---- items

both : (a b : Bool) → a && b ≡ true → (a ≡ true) × (b ≡ true)
both true true e = (refl, refl)
both true false e = absurd cc
both false b e = absurd cc

range_is : (here : Spot) → Every (λ r. is_range r.start r.width ≡ true) (range here)
range_is here =
    every-next _ (an_object here) _ (λ _.
    every-next _ (needed (codes "start") here >>> number_below (2 ^ 32)) _ (λ start.
    every-next _ (needed (codes "width") here >>> number_below (2 ^ 32)) _ (λ width.
    every-then (λ _. is_range start width ≡ true) _ (unless (is_range start width) here BadRange) _ (every-unless (is_range start width) here BadRange) (λ _ is. is))))

-- the digits are as many as the range is wide
abbrev AreWide : ℕ → List Digit → Type 0
AreWide width digits = length digits ≡ width

pattern_wide : (width : ℕ) (here : Spot) (read : Result (List Digit) PatternRefusal) → Every (AreWide width) (pattern width here read)
pattern_wide width here (Err refusal) = tt
pattern_wide width here (Ok digits) =
    every-then (λ _. (length digits == width) ≡ true) (AreWide width) (unless (length digits == width) here BadRange) (λ _. Done digits) (every-unless (length digits == width) here BadRange)
    (λ _ is. eqb-true (length digits) width is)

value_wide : (width : ℕ) (here : Spot) → Every (AreWide width) (value width here)
value_wide width here =
    every-next (AreWide width) (exactly (codes "Values.Value") here) _ (λ _.
    every-next (AreWide width) (needed (codes "value") here) _ (λ place.
    every-next (AreWide width) (text place) _ (λ s. pattern_wide width place (pattern_in s))))

marked_length : (digits mask : List Digit) → length (marked_by digits mask) ≡ length digits
marked_length [] mask = refl
marked_length (d ∷ digits) [] = ap suc (marked_length digits [])
marked_length (d ∷ digits) (m ∷ mask) = ap suc (marked_length digits mask)

-- an item over a range with digits that fill it
sound : (start width : ℕ) (digits : List Digit) (marks : List Bool) → is_range start width ≡ true → AreWide width digits → length marks ≡ length digits
    → IsSoundItem (record { name = None; start = start; digits = digits; marks = marks })
sound start width digits marks is wide marked =
    let parts = both (nat_le 1 width) (nat_le (start + width) 32) is in
    record {
      name = tt;
      some = subst (λ n. 1 ≤ n) (sym wide) (leb-true 1 width parts.0);
      fits = subst (λ n. start + n ≤ 32) (sym wide) (leb-true (start + width) 32 parts.1);
      marks = marked;
    }

masked_is : (here : Spot) → Every IsSoundItem (masked here)
masked_is here =
    every-then (λ r. is_range r.start r.width ≡ true) IsSoundItem (needed (codes "range") here >>> range) _ (every-next _ (needed (codes "range") here) range range_is) (λ r is.
    every-then (AreWide r.width) IsSoundItem (needed (codes "value") here >>> value r.width) _ (every-next _ (needed (codes "value") here) (value r.width) (value_wide r.width)) (λ digits wide.
    every-next IsSoundItem (optional (codes "should_be_mask") (value r.width) here) _ (λ mask. sound r.start r.width digits (marked_by digits (unwrap_or mask [])) is wide (marked_length digits (unwrap_or mask [])))))

should_be_is : (here : Spot) → Every IsSoundItem (should_be here)
should_be_is here =
    every-then (λ r. is_range r.start r.width ≡ true) IsSoundItem (needed (codes "range") here >>> range) _ (every-next _ (needed (codes "range") here) range range_is) (λ r is.
    every-then (AreWide r.width) IsSoundItem (needed (codes "value") here >>> value r.width) _ (every-next _ (needed (codes "value") here) (value r.width) (value_wide r.width)) (λ digits wide.
    sound r.start r.width digits (map is_binary digits) is wide (length-map digits is_binary)))

parts_are : (earlier : List Item) (here : Spot) (k : ItemKind) → Every IsSoundItem (item_parts earlier here k)
parts_are earlier here Bits = masked_is here
parts_are earlier here ShouldBeBits = should_be_is here
parts_are earlier here Field =
    every-then (λ s. is_field_name s ≡ true) IsSoundItem (field_name earlier here >>> named here) _ (every-then (λ s. is_field_name s ≡ true) (λ s. is_field_name s ≡ true) (field_name earlier here) (named here) (field_named earlier here) (λ s is. is)) (λ s is.
    every-then IsSoundItem IsSoundItem (masked here) _ (masked_is here) (λ it laid. record { name = is; some = laid.some; fits = laid.fits; marks = laid.marks }))

item_is : (above : ℕ) (earlier : List Item) (here : Spot) → Every IsSoundItem (item above earlier here)
item_is above earlier here =
    every-then IsSoundItem IsSoundItem (kind item_kind_named here >>> item_parts earlier here) _ (every-next IsSoundItem (kind item_kind_named here) (item_parts earlier here) (parts_are earlier here)) (λ it is.
    every-next IsSoundItem (unless (within_limits (length earlier) (above + length (option_to_list it.name))) here TooMany) (λ _. Done it) (λ _. is))

items_are : (above : ℕ) (here : Spot) → Every (AllByRecursion IsSoundItem) (encodeset above here)
items_are above here =
    encodeset-every (AllByRecursion IsSoundItem) above here
    (λ list ds. every-each IsSoundItem (λ earlier. item (above + named_in earlier) earlier) list.at [] ds (λ earlier inner _. item_is (above + named_in earlier) earlier inner) tt)

-- ---- what a node says of itself

abbrev IsOwn : Kind → Own → Type 0
IsOwn k o = (o.kind ≡ k) × IsSoundOwn o

own_is : (k : Kind) (above : ℕ) (here : Spot) → Every (IsOwn k) (own k above here)
own_is k above here =
    own-every (λ s. is_name s ≡ true) (AllByRecursion IsSoundItem) (IsOwn k) k above here (name_is here) tt (items_are above) (λ name items condition is fields. (refl, record { name = is; items = fields }))
  where
    name_is : (here : Spot) → Every (λ s. is_name s ≡ true) (node_name here)
    name_is here =
        every-next _ (needed (codes "name") here) _ (λ place.
        every-next _ (text place) _ (λ s.
        every-then (λ _. is_name s ≡ true) _ (unless (is_name s) place BadName) _ (every-unless (is_name s) place BadName) (λ _ is. is)))

-- ---- nodes below nodes

-- a node that may stand among those kinds, with all below it
record StandsAmong (kinds : List Kind) (n : Node) : Type 0 where
  place : MayStand kinds (node_kind n)
  shaped : IsShaped n
  sound : IsSound n

-- an element of `children` of an owner
abbrev Below : Above → Option Node → Type 0
Below above o = IfSome o (StandsAmong (kinds_in above.owner))

below_all : (kinds : List Kind) (found : List (Option Node)) → AllByRecursion (λ o. IfSome o (StandsAmong kinds)) found → AreShaped kinds (nodes_of found) × AreSound (nodes_of found)
below_all kinds [] h = (tt, tt)
below_all kinds (None ∷ found) h = below_all kinds found h.1
below_all kinds (Some n ∷ found) h =
    let rest = below_all kinds found h.1 in
    ((h.0.place, (h.0.shaped, rest.0)), (h.0.sound, rest.1))

-- a node of a kind, with all below it
record IsNodeOf (k : Kind) (n : Node) : Type 0 where
  kind_is : node_kind n ≡ k
  shaped : IsShaped n
  sound : IsSound n

node_is : (k : Kind) (above : ℕ) (here : Spot) (inside : Inside Above (Option Node)) → EveryInside Below inside → Every (IsNodeOf k) (node_of k above here inside)
node_is k above here inside keeps =
    every-then (IsOwn k) (IsNodeOf k) (own k above here) _ (own_is k above here) (λ o is.
    every-then (AllByRecursion (λ o. IfSome o (StandsAmong (kinds_in k)))) (IsNodeOf k) (inside.optional_parts (record { owner = k; named = above + named_in o.items }) (codes "children")) _
    (keeps.optional_parts (record { owner = k; named = above + named_in o.items }) (codes "children")) (λ found h.
    let below = below_all (kinds_in k) found h in
    record { kind_is = is.0; shaped = subst (λ j. AreShaped (kinds_in j) (nodes_of found)) (sym is.0) below.0; sound = (is.1, below.1) }))

-- an alias, with nothing below it
alias_is : (above : ℕ) (here : Spot) → Every (IsNodeOf Alias) (alias_of above here)
alias_is above here =
    every-then (IsOwn Alias) (IsNodeOf Alias) (own Alias above here) _ (own_is Alias above here) (λ o is.
    every-next (IsNodeOf Alias) (optional (codes "preferred") expression here) _ (λ preferred.
    record { kind_is = is.0; shaped = tt; sound = (record { name = is.1.name; items = is.1.items }, tt) }))

child_keeps : (above : Above) (here : Spot) (inside : Inside Above (Option Node)) → EveryInside Below inside → Every (Below above) (child above here inside)
child_keeps above here inside keeps =
    every-then (λ k. IsAmong k (kinds_in above.owner)) (Below above) (kind (kind_named (kinds_in above.owner)) here) (child_of above.named here inside) (among-kind (kinds_in above.owner) here) of_kind
  where
    put : (k : Kind) (walk : Walk Node) → Every (IsNodeOf k) walk → IsAmong k (kinds_in above.owner) → k ≢ Instance → Every (Below above) (walk >>> λ n. Done (Some n))
    put k walk every among is_node = every-then (IsNodeOf k) (Below above) walk (λ n. Done (Some n)) every
        (λ n is. record { place = subst (MayStand (kinds_in above.owner)) (sym is.kind_is) (record { among = among; is_node = is_node }); shaped = is.shaped; sound = is.sound })

    of_kind : (k : Kind) → IsAmong k (kinds_in above.owner) → Every (Below above) (child_of above.named here inside k)
    of_kind Set among = put Set (node_of Set above.named here inside) (node_is Set above.named here inside keeps) among (λ e. absurd cc)
    of_kind Group among = put Group (node_of Group above.named here inside) (node_is Group above.named here inside keeps) among (λ e. absurd cc)
    of_kind Leaf among = put Leaf (node_of Leaf above.named here inside) (node_is Leaf above.named here inside keeps) among (λ e. absurd cc)
    of_kind Alias among = put Alias (alias_of above.named here) (alias_is above.named here) among (λ e. absurd cc)
    of_kind Instance among = tt

-- ---- the document

set_is : (isa : List ℕ) (before : List (Option Node)) (here : Spot) → Every (λ o. IfSome o IsSetTree) (set isa before here)
set_is isa before here =
    every-next _ (kind (kind_named (Set ∷ [])) here) _ (λ _.
    every-next _ (is_chosen isa before here) (set_of here) chosen)
  where
    chosen : (b : Bool) → Every (λ o. IfSome o IsSetTree) (set_of here b)
    chosen false = tt
    chosen true = every-then (IsNodeOf Set) (λ o. IfSome o IsSetTree) (node_of Set 0 here (inside_of child here)) (λ n. Done (Some n)) (node_is Set 0 here (inside_of child here) (every-inside Below child child_keeps here))
        (λ n is. record { root = is.kind_is; shaped = is.shaped; sound = is.sound })

chosen_is : (found : List (Option Node)) → AllByRecursion (λ o. IfSome o IsSetTree) found → IfSome (chosen_in found) IsSetTree
chosen_is [] h = tt
chosen_is (None ∷ found) h = chosen_is found h.1
chosen_is (Some n ∷ found) h = h.0

needs_is : (o : Option Node) (here : Spot) → IfSome o IsSetTree → Every IsSetTree (needs o here NoSet)
needs_is None here h = tt
needs_is (Some n) here h = h

-- the value of the walk has its shape
pub tree_shaped : (isa : List ℕ) (here : Spot) → Every IsSetTree (instructions isa here)
tree_shaped isa here =
    every-next IsSetTree (an_object here) _ (λ _.
    every-next IsSetTree (needed (codes "instructions") here) _ (λ list.
    every-then (AllByRecursion (λ o. IfSome o IsSetTree)) IsSetTree (elements list >>> each (set isa) list.at []) _
    (every-next _ (elements list) (each (set isa) list.at []) (λ ds. every-each (λ o. IfSome o IsSetTree) (set isa) list.at [] ds (λ before inner _. set_is isa before inner) tt))
    (λ found h. needs_is (chosen_in found) list (chosen_is found h))))

-- the tree that a document gives has its shape
pub read_shaped : (isa : List ℕ) (here : Spot) (before after : Counts) (tree : Node) → gives (instructions isa here) before ≡ Ok (tree, after) → IsSetTree tree
read_shaped isa here before after tree e = every-gives IsSetTree (instructions isa here) before after tree (tree_shaped isa here) e
