-- An Instructions document as a walk, whose value is the nested tree of the chosen set.
use Rattle.std.specs.Prelude.{ℕ, ◌+◌, List, [], ◌∷◌, Bool, true, false, not, ◌&&◌, Option, Some, None, is_some, codes, bytes_eq, unwrap_or, ⊤}
use Rattle.spec_walk.specs.Event.{ANode, ALeaf, AnAlias, BadName, Doubled, NoSet}
use Rattle.spec_walk.specs.Walk.{Walk, Done, ◌>>>◌}
use Rattle.spec_walk.specs.Spot.{Spot, unless, needs, an_object, elements, text, needed, optional, kind, named, one_more, each}
use Rattle.spec_walk.specs.Descend.{Inside, Reader, inside_of}
use Rattle.spec_expressions.specs.Reading.{expression}
use Rattle.spec_instructions.specs.Name.{is_name}
use Rattle.spec_instructions.specs.Kind.{Kind, Set, Group, Leaf, Alias, Instance, kinds_in, kind_named}
use Rattle.spec_instructions.specs.Encodeset.{encodeset, named_in}
use Rattle.spec_instructions.specs.Tree.{Own, bare, Node, node, Nodes, no_nodes, more}

-- ---- what a node says of itself

-- the text of the member `name`, which is a name
abbrev pub node_name : Spot → Walk (List ℕ)
node_name here =
    needed (codes "name") here >>> λ place.
    text place >>> λ s.
    unless (is_name s) place BadName >>> λ _.
    Done s

-- one more node, and for a leaf or an alias one more of these
abbrev pub counted : Kind → Spot → Walk ⊤
counted Set here = one_more ANode here
counted Group here = one_more ANode here
counted Leaf here = one_more ANode here >>> λ _. one_more ALeaf here
counted Alias here = one_more ANode here >>> λ _. one_more AnAlias here
counted Instance here = Done tt

-- what a node of a kind says of itself, behind so many named items of its path
abbrev pub own : Kind → ℕ → Spot → Walk Own
own k above here =
    node_name here >>> named here >>> λ name.
    counted k here >>> λ _.
    optional (codes "encoding") (encodeset above) here >>> λ items.
    optional (codes "condition") expression here >>> λ condition.
    Done (record (bare k name) { items = unwrap_or items []; condition = condition })

-- ---- nodes below nodes

-- what is handed down to the elements of `children`: the kind of their owner, and how many named items stand on its path
pub record Above : Type 0 where
  pub owner : Kind
  pub named : ℕ

-- the nodes that were found, without what was passed over
abbrev pub nodes_of : List (Option Node) → Nodes
nodes_of [] = no_nodes
nodes_of (None ∷ found) = nodes_of found
nodes_of (Some n ∷ found) = more n (nodes_of found)

-- a node of a kind: what it says of itself, and its children
abbrev pub node_of : Kind → ℕ → Spot → Inside Above (Option Node) → Walk Node
node_of k above here inside =
    own k above here >>> λ o.
    inside.optional_parts (record { owner = k; named = above + named_in o.items }) (codes "children") >>> λ found.
    Done (node o (nodes_of found))

-- an alias, which has no children: what it says of itself, and when it is preferred
abbrev pub alias_of : ℕ → Spot → Walk Node
alias_of above here =
    own Alias above here >>> λ o.
    optional (codes "preferred") expression here >>> λ preferred.
    Done (node (record o { preferred = preferred }) no_nodes)

-- an element of `children` by its kind: an instance is passed over, and no set stands there
abbrev pub child_of : ℕ → Spot → Inside Above (Option Node) → Kind → Walk (Option Node)
child_of above here inside Set = node_of Set above here inside >>> λ n. Done (Some n)
child_of above here inside Group = node_of Group above here inside >>> λ n. Done (Some n)
child_of above here inside Leaf = node_of Leaf above here inside >>> λ n. Done (Some n)
child_of above here inside Alias = alias_of above here >>> λ n. Done (Some n)
child_of above here inside Instance = Done None

-- an element of `children`, of one of the kinds that may stand there
abbrev pub child : Reader Above (Option Node)
child above here inside = kind (kind_named (kinds_in above.owner)) here >>> child_of above.named here inside

-- ---- the document

-- the set that was chosen, if one was
abbrev pub chosen_in : List (Option Node) → Option Node
chosen_in [] = None
chosen_in (None ∷ found) = chosen_in found
chosen_in (Some n ∷ found) = Some n

-- whether a set's name is the chosen one, which no second set may have
abbrev pub is_chosen : List ℕ → List (Option Node) → Spot → Walk Bool
is_chosen isa before here =
    needed (codes "name") here >>> λ place.
    text place >>> λ s.
    unless (is_name s) place BadName >>> λ _.
    unless (not (is_some (chosen_in before) && bytes_eq s isa)) place Doubled >>> λ _.
    Done (bytes_eq s isa)

-- a set of the chosen name is read on; any other is passed over, and its name takes no number
abbrev pub set_of : Spot → Bool → Walk (Option Node)
set_of here false = Done None
set_of here true = node_of Set 0 here (inside_of child here) >>> λ n. Done (Some n)

-- an element of `instructions`, behind those before it
abbrev pub set : List ℕ → List (Option Node) → Spot → Walk (Option Node)
set isa before here =
    kind (kind_named (Set ∷ [])) here >>> λ _.
    is_chosen isa before here >>>
    set_of here

-- the document, of which the set of that name is chosen
abbrev pub instructions : List ℕ → Spot → Walk Node
instructions isa here =
    an_object here >>> λ _.
    needed (codes "instructions") here >>> λ list.
    elements list >>> each (set isa) list.at [] >>> λ found.
    needs (chosen_in found) list NoSet
