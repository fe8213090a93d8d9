-- Worked values: the aliases of two leaves, of which two have one name.
use Rattle.std.specs.Prelude.{◌≡◌, [], ◌∷◌, Some, None, map, codes, refl}
use Rattle.std.specs.Fmt.{digits}
use Rattle.spec_instructions.specs.Kind.{Set, Group, Leaf, Alias}
use Rattle.spec_instructions.specs.Tree.{Own, bare, Node, node, no_nodes, more}
use Rattle.spec_instructions.specs.Paths.{paths_from}
use Rattle.spec_instructions.specs.Aliases.{alias_paths, aliases_in, alias_label, labelled_alias}

abbrev set_own : Own
set_own = bare Set (codes "A64")

abbrev group : Own
group = bare Group (codes "g")

abbrev leaf : Own
leaf = bare Leaf (codes "ORR")

abbrev lone_leaf : Own
lone_leaf = bare Leaf (codes "RET")

abbrev add : Own
add = bare Leaf (codes "ADD")

abbrev mov : Own
mov = bare Alias (codes "MOV")

abbrev tst : Own
tst = bare Alias (codes "TST")

-- a leaf with one alias, a leaf with none, and in a group a leaf with two
abbrev set : Node
set = node set_own (more (node leaf (more (node mov no_nodes) no_nodes)) (more (node lone_leaf no_nodes) (more (node group (more (node add (more (node tst no_nodes) (more (node mov no_nodes) no_nodes))) no_nodes)) no_nodes)))

-- an alias's path is its leaf's and the alias behind it, and the aliases are numbered over the whole set
three_aliases : aliases_in set ≡ record { leaf = 0; above = set_own ∷ leaf ∷ []; own = mov } ∷ record { leaf = 2; above = set_own ∷ group ∷ add ∷ []; own = tst } ∷ record { leaf = 2; above = set_own ∷ group ∷ add ∷ []; own = mov } ∷ []
three_aliases = refl

three_paths : alias_paths (aliases_in set) ≡ (set_own ∷ leaf ∷ mov ∷ []) ∷ (set_own ∷ group ∷ add ∷ tst ∷ []) ∷ (set_own ∷ group ∷ add ∷ mov ∷ []) ∷ []
three_paths = refl

-- aliases are no leaves
three_leaves : paths_from [] set ≡ (set_own ∷ leaf ∷ []) ∷ (set_own ∷ lone_leaf ∷ []) ∷ (set_own ∷ group ∷ add ∷ []) ∷ []
three_leaves = refl

-- the number of a label is the alias's among all aliases, and not the one within its leaf, nor that of its leaf
labels : map (alias_label (aliases_in set)) (0 ∷ 1 ∷ 2 ∷ []) ≡ codes "MOV#0" ∷ codes "TST" ∷ codes "MOV#2" ∷ []
unfolding digits
labels = refl

by_number : labelled_alias (aliases_in set) (codes "MOV#2") ≡ Some 2
unfolding digits
by_number = refl

by_name : labelled_alias (aliases_in set) (codes "TST") ≡ Some 1
unfolding digits
by_name = refl

shared_name : labelled_alias (aliases_in set) (codes "MOV") ≡ None
unfolding digits
shared_name = refl

-- a leaf's label is no alias's
leaf_label : labelled_alias (aliases_in set) (codes "ORR") ≡ None
unfolding digits
leaf_label = refl

-- an alias may have its leaf's name
same_name : labelled_alias (aliases_in (node set_own (more (node leaf (more (node (bare Alias (codes "ORR")) no_nodes) no_nodes)) no_nodes))) (codes "ORR") ≡ Some 0
unfolding digits
same_name = refl
