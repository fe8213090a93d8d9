-- The first fault of a walk, with the limits on names and on counted things.
use Rattle.std.specs.Prelude.{ℕ, ◌+◌, List, [], ◌∷◌, ◌++◌, length, nat_le, bytes_eq, Result, Ok, Err, if◌then◌else◌}
use Rattle.std.specs.List.{list_any}
use Rattle.spec_walk.specs.Event.{ANode, ALeaf, AnAlias, AnExpression, TooMany, Fault, Event, Name, OneMore, Wrong}

-- the texts that have a number, in order of their numbers, and how many nodes, leaves, aliases and expressions were met
pub record Counts : Type 0 where
  pub held : List (List ℕ)
  pub nodes : ℕ
  pub leaves : ℕ
  pub aliases : ℕ
  pub expressions : ℕ

-- before a walk, with these texts held
abbrev pub from_held : List (List ℕ) → Counts
from_held held = record { held = held; nodes = 0; leaves = 0; aliases = 0; expressions = 0 }

-- the most names, nodes, leaves, aliases and expressions
abbrev pub name_limit : ℕ
name_limit = 4194304

abbrev pub node_limit : ℕ
node_limit = 1048576

abbrev pub leaf_limit : ℕ
leaf_limit = 65536

abbrev pub alias_limit : ℕ
alias_limit = 65536

abbrev pub expression_limit : ℕ
expression_limit = 4194304

-- one more, unless the limit is reached
abbrev pub counted_up : ℕ → ℕ → List ℕ → Counts → Result Counts Fault
counted_up limit count at next = if nat_le limit count then Err (record { at = at; why = TooMany }) else Ok next

-- a text takes the next number, unless it has one
abbrev pub named : List ℕ → List ℕ → Counts → Result Counts Fault
named at text c =
    if list_any (λ held. bytes_eq held text) c.held then Ok c
    else counted_up name_limit (length c.held) at (record c { held = c.held ++ text ∷ [] })

abbrev pub after : Event → Counts → Result Counts Fault
after (Name at text) c = named at text c
after (OneMore ANode at) c = counted_up node_limit c.nodes at (record c { nodes = c.nodes + 1 })
after (OneMore ALeaf at) c = counted_up leaf_limit c.leaves at (record c { leaves = c.leaves + 1 })
after (OneMore AnAlias at) c = counted_up alias_limit c.aliases at (record c { aliases = c.aliases + 1 })
after (OneMore AnExpression at) c = counted_up expression_limit c.expressions at (record c { expressions = c.expressions + 1 })
after (Wrong f) c = Err f

-- what a step gives, or the fault before it
infixl 10 ◌>>=◌
abbrev pub ◌>>=◌ : {A B : Type 0} → Result A Fault → (A → Result B Fault) → Result B Fault
(Ok x) >>= f = f x
(Err e) >>= f = Err e

-- the counts behind all events, or the first fault: an event that is one, or the first that passes a limit
abbrev pub judged : List Event → Counts → Result Counts Fault
judged [] c = Ok c
judged (e ∷ es) c = after e c >>= judged es
