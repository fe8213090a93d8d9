use Rattle.std.proofs.Common.{ap}
use Rattle.insn_tree.specs.Trees.{TreeParts}
use Rattle.insn_tree.proofs.AliasKeptLaws.{AreAliases-of, leaf_kept}
use Rattle.insn_tree.proofs.tree.Tree.alias_leaf.Goals as goal

pub returns : goal.returns
returns c =
    let kept = AreAliases-of c.self.inside.aliases c.self.inside.arena.nodes c.args.self.now.nodes (ap (λ (t : TreeParts). t.nodes) c.self.view_is) c.self.invariant.1 in
    leaf_kept c.args.self.now.nodes c.self.inside.aliases kept c.args.a.0 c.requires c.index.result.now c.index.ensures
