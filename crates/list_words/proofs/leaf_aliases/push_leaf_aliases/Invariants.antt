use Rattle.std.proofs.Common.{◌++◌, length}
use Rattle.spec_lines.specs.LeafAliases.{alias_lines}
use Rattle.mrs_arena.specs.Placed.{aliases_of}
use Rattle.insn_tree.specs.Trees.{tree_aliases}
use Rattle.insn_alias.proofs.WalkLaws.{left}
use Rattle.list_words.proofs.AliasLaws.{Listing}
use Rattle.list_words.proofs.leaf_aliases.push_leaf_aliases.Given as goal

-- with those from the next alias on, the lines of all aliases of the leaf are there
abbrev pub invariant-aliases : goal.invariant-aliases
invariant-aliases l = Listing l.names l.tree l.fn.leaf.0 (l.fn.out.items ++ alias_lines (tree_aliases l.names l.tree) l.fn.leaf.0) l.out.items l.next

abbrev pub decreases-aliases : goal.decreases-aliases
decreases-aliases l = left (length (aliases_of l.tree.nodes)) l.next
