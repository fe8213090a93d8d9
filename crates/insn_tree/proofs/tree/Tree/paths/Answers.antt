use Rattle.std.proofs.Common.{ap, sym, subst}
use Rattle.insn_tree.specs.declared.path_id.PathId.{PathId}
use Rattle.insn_tree.specs.Trees.{TreeParts}
use Rattle.insn_tree.specs.PathIds.{ends}
use Rattle.insn_tree.specs.Kept.{ArePaths}
use Rattle.insn_tree.proofs.LeafKeptLaws.{AreLeaves-of}
use Rattle.insn_tree.proofs.AliasKeptLaws.{AreAliases-of}
use Rattle.insn_tree.proofs.tree.Tree.paths.Goals as goal

pub returns-in-Leaf : goal.returns-in-Leaf
returns-in-Leaf c =
    let nodes = c.args.self.now.nodes in
    subst (λ (p : PathId). ArePaths nodes (ends nodes p) c.self.inside.leaves.paths) (sym c.in-Leaf.is) (AreLeaves-of c.self.inside.leaves c.self.inside.arena.nodes nodes (ap (λ (t : TreeParts). t.nodes) c.self.view_is) c.self.invariant.0).paths

pub returns-in-Alias : goal.returns-in-Alias
returns-in-Alias c =
    let nodes = c.args.self.now.nodes in
    subst (λ (p : PathId). ArePaths nodes (ends nodes p) c.self.inside.aliases.paths) (sym c.in-Alias.is) (AreAliases-of c.self.inside.aliases c.self.inside.arena.nodes nodes (ap (λ (t : TreeParts). t.nodes) c.self.view_is) c.self.invariant.1).paths
