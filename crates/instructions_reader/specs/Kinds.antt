-- The kinds of nodes that this crate's enum stands for.
use Rattle.spec_instructions.specs.Kind as kind
use Rattle.spec_instructions.specs.Kind.{Kind}
use Rattle.instructions_reader.specs.declared.nodes.ChildKind.{ChildKind}
use Rattle.instructions_reader.specs.declared.nodes.ChildKind.TheVariants as of_child

abbrev pub child_kind_of : ChildKind → Kind
child_kind_of of_child.Group = kind.Group
child_kind_of of_child.Leaf = kind.Leaf
child_kind_of of_child.Alias = kind.Alias
child_kind_of of_child.Instance = kind.Instance
