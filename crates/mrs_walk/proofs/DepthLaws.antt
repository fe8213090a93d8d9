-- How deep values nest: a member and an element of it nest less deep than their owner.
use Rattle.std.proofs.Common.{◌≡◌, ap, refl, ℕ, zero, suc, max, ◌<◌, ◌≤◌, List, [], ◌∷◌, length, get_or, Option, Some, None, option_map, option_and_then, Ordering, Less, Equal, Greater, arith}
use Rattle.std.specs.Ordering.{nat_cmp, match_ordering}
use Rattle.std.specs.Cmp.Lexicographic.{slice_cmp}
use Rattle.serde_json.specs.Data.{depth, items_depth, members_depth, Data, null, boolean, number, string, array, object, Members, no_members, member}
use Rattle.serde_json.specs.Find.{get, get_member}
use Rattle.serde_json.specs.View.{view, items_view}
use Rattle.serde_json.specs.declared.value.Value.{Value}
use Rattle.spec_walk.specs.Walk.{Done}
use Rattle.spec_walk.specs.Spot.{Spot, below, not_null, needed, needs, member_at, elements}
use Rattle.spec_walk.specs.Event.{Missing}

get_member-depth : (o : Ordering) (d : Data) (rest : Option Data) (n : ℕ) (e : Data) → ((f : Data) → rest ≡ Some f → depth f ≤ n) → match_ordering o rest (Some d) rest ≡ Some e → depth e ≤ max (depth d) n
get_member-depth Less d rest n e h is = omega (arith, h e is)
get_member-depth Greater d rest n e h is = omega (arith, h e is)
get_member-depth Equal d rest n e h is = let same : d ≡ e = cc in omega (arith, ap depth same)

member_depth : (key : List ℕ) (ms : Members) (e : Data) → get_member key ms ≡ Some e → depth e ≤ members_depth ms
member_depth key no_members e is = absurd (cc)
member_depth key (member l d ms) e is = get_member-depth (slice_cmp nat_cmp key l) d (get_member key ms) (members_depth ms) e (λ f. member_depth key ms f) is

get_shallower : (key : List ℕ) (d e : Data) → get key d ≡ Some e → depth e < depth d
get_shallower key null e is = absurd (cc)
get_shallower key (boolean b) e is = absurd (cc)
get_shallower key (number n) e is = absurd (cc)
get_shallower key (string s) e is = absurd (cc)
get_shallower key (array ds) e is = absurd (cc)
get_shallower key (object ms) e is = omega (arith, member_depth key ms e is)

item_depth : (vs : List Value) (i : ℕ) (d : Value) → i < length vs → depth (view (get_or vs i d)) ≤ items_depth (items_view vs)
item_depth [] i d within = absurd (omega arith)
item_depth (v ∷ vs) zero d within = omega arith
item_depth (v ∷ vs) (suc i) d within = let further : i < length vs = omega arith in omega (arith, item_depth vs i d further)

-- a member that has to be there
needs_shallower : (key : List ℕ) (here there : Spot) (o : Option Data) → ((e : Data) → o ≡ Some e → depth e < depth here.value) → needs (option_map (below key here) o) here (Missing key) ≡ Done there → depth there.value < depth here.value
needs_shallower key here there None h is = absurd (cc)
needs_shallower key here there (Some d) h is = let same : below key here d ≡ there = cc in omega (arith, h d refl, ap (λ s. depth s.value) same)

pub needed_shallower : (key : List ℕ) (here there : Spot) → needed key here ≡ Done there → depth there.value < depth here.value
needed_shallower key here there is = needs_shallower key here there (get key here.value) (λ e. get_shallower key here.value e) is

-- a member that may be there
there_shallower : (key : List ℕ) (here there : Spot) (o : Option Data) → ((e : Data) → o ≡ Some e → depth e < depth here.value) → Some there ≡ option_map (below key here) (option_and_then not_null o) → depth there.value < depth here.value
there_shallower key here there None h is = absurd (cc)
there_shallower key here there (Some null) h is = absurd (cc)
there_shallower key here there (Some (boolean b)) h is = let same : below key here (boolean b) ≡ there = cc in omega (arith, h (boolean b) refl, ap (λ s. depth s.value) same)
there_shallower key here there (Some (number n)) h is = let same : below key here (number n) ≡ there = cc in omega (arith, h (number n) refl, ap (λ s. depth s.value) same)
there_shallower key here there (Some (string s)) h is = let same : below key here (string s) ≡ there = cc in omega (arith, h (string s) refl, ap (λ s. depth s.value) same)
there_shallower key here there (Some (array ds)) h is = let same : below key here (array ds) ≡ there = cc in omega (arith, h (array ds) refl, ap (λ s. depth s.value) same)
there_shallower key here there (Some (object ms)) h is = let same : below key here (object ms) ≡ there = cc in omega (arith, h (object ms) refl, ap (λ s. depth s.value) same)

pub member_shallower : (key : List ℕ) (here there : Spot) → Some there ≡ member_at key here → depth there.value < depth here.value
member_shallower key here there is = there_shallower key here there (get key here.value) (λ e. get_shallower key here.value e) is

-- an element
elements_depth : (here : Spot) (d : Data) (vs : List Value) → elements (record here { value = d }) ≡ Done (items_view vs) → items_depth (items_view vs) < depth d
elements_depth here null vs is = absurd (cc)
elements_depth here (boolean b) vs is = absurd (cc)
elements_depth here (number k) vs is = absurd (cc)
elements_depth here (string s) vs is = absurd (cc)
elements_depth here (array ds) vs is = let same : ds ≡ items_view vs = cc in omega (arith, ap items_depth same)
elements_depth here (object ms) vs is = absurd (cc)

pub element_shallower : (here there : Spot) (vs : List Value) (i : ℕ) (v : Value) → elements here ≡ Done (items_view vs) → i < length vs → v ≡ get_or vs i v → there.value ≡ view v → depth there.value < depth here.value
element_shallower here there vs i v is within at_i same =
    omega (arith, elements_depth here here.value vs is, item_depth vs i v within, ap (λ x. depth (view x)) at_i, ap depth same)
