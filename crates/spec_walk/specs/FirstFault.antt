-- The first fault among the events of a walk, with the limits on names and on counted things, and what a walk answers by it.
use Rattle.std.specs.Prelude.{ℕ, ◌+◌, Bool, true, false, nat_le, bytes_eq, List, [], ◌∷◌, ◌++◌, length, count_by, Option, Some, None, Result, Ok, Err, if◌then◌else◌}
use Rattle.std.specs.List.{list_any}
use Rattle.std.specs.Option.{option_or}
use Rattle.spec_walk.specs.Event.{Thing, ANode, ALeaf, AnAlias, AnExpression, TooMany, Fault, Event, Name, OneMore, Wrong}
use Rattle.spec_walk.specs.Limits.{Counts, name_limit, node_limit, leaf_limit, alias_limit, expression_limit}
use Rattle.spec_walk.specs.Walk.{Walk, Done, Stop, Meet, events}

-- ---- counted things

-- the most of a thing, and how many of it were counted
abbrev pub limit_of : Thing → ℕ
limit_of ANode = node_limit
limit_of ALeaf = leaf_limit
limit_of AnAlias = alias_limit
limit_of AnExpression = expression_limit

abbrev pub counted : Thing → Counts → ℕ
counted ANode c = c.nodes
counted ALeaf c = c.leaves
counted AnAlias c = c.aliases
counted AnExpression c = c.expressions

-- an event is one more of a thing
abbrev pub is_one_more : Thing → Event → Bool
is_one_more ANode (OneMore ANode at) = true
is_one_more ALeaf (OneMore ALeaf at) = true
is_one_more AnAlias (OneMore AnAlias at) = true
is_one_more AnExpression (OneMore AnExpression at) = true
is_one_more thing event = false

-- how many of a thing there are among events
abbrev pub count_of : Thing → List Event → ℕ
count_of thing es = count_by (is_one_more thing) es

-- ---- names

abbrev pub is_held : List ℕ → List (List ℕ) → Bool
is_held s held = list_any (λ h. bytes_eq h s) held

-- a text takes the next number, unless it has one
abbrev pub with_name : List ℕ → List (List ℕ) → List (List ℕ)
with_name s held = if is_held s held then held else held ++ s ∷ []

-- the texts that are held behind events
abbrev pub names_behind : List (List ℕ) → List Event → List (List ℕ)
names_behind held [] = held
names_behind held (Name at s ∷ es) = names_behind (with_name s held) es
names_behind held (OneMore thing at ∷ es) = names_behind held es
names_behind held (Wrong f ∷ es) = names_behind held es

-- ---- faults

-- what is held and counted behind events
abbrev pub behind : Counts → List Event → Counts
behind c es =
    record {
      held = names_behind c.held es;
      nodes = c.nodes + count_of ANode es;
      leaves = c.leaves + count_of ALeaf es;
      aliases = c.aliases + count_of AnAlias es;
      expressions = c.expressions + count_of AnExpression es;
    }

abbrev pub too_many : List ℕ → Fault
too_many at = record { at = at; why = TooMany }

-- the fault that an event is: itself; one more of a thing of which there are as many as may be; or a name that is not held, where as
-- many texts are held as may be
abbrev pub fault_of : Counts → Event → Option Fault
fault_of c (Wrong f) = Some f
fault_of c (OneMore thing at) = if nat_le (limit_of thing) (counted thing c) then Some (too_many at) else None
fault_of c (Name at s) = if is_held s c.held then None else (if nat_le name_limit (length c.held) then Some (too_many at) else None)

-- the first event that is a fault behind those before it
abbrev pub first_fault : Counts → List Event → List Event → Option Fault
first_fault c before [] = None
first_fault c before (e ∷ es) = option_or (fault_of (behind c before) e) (first_fault c (before ++ e ∷ []) es)

-- ---- what a walk answers

-- what stands at its end: the value, with what is counted by then, or the fault that ends it
abbrev pub end_of : {A : Type 0} → Walk A → Counts → Result (A × Counts) Fault
end_of (Done x) c = Ok (x, c)
end_of (Stop f) c = Err f
end_of (Meet e w) c = end_of w c

-- the first fault, where there is one, and else the value with all that is held and counted
abbrev pub unless_fault : {A : Type 0} → Option Fault → Result A Fault → Result A Fault
unless_fault (Some f) ended = Err f
unless_fault None ended = ended

abbrev pub answers : {A : Type 0} → Walk A → Counts → Result (A × Counts) Fault
answers w c = unless_fault (first_fault c [] (events w)) (end_of w (behind c (events w)))
