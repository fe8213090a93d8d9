use Rattle.std.proofs.Common.{ap, []}
use Rattle.insn_tree.specs.Trees.{TreeParts}
use Rattle.insn_tree.proofs.AliasKeptLaws.{AreAliases-of, first_kept, found_from}
use Rattle.insn_tree.proofs.tree.Tree.first_alias.Goals as goal

pub returns-clause-first : goal.returns-clause-first
returns-clause-first c =
    let kept = AreAliases-of c.self.inside.aliases c.self.inside.arena.nodes c.args.self.now.nodes (ap (λ (t : TreeParts). t.nodes) c.self.view_is) c.self.invariant.1 in
    first_kept c.args.self.now.nodes c.self.inside.aliases kept c.args.l.0 c.requires c.index.result.now c.index.ensures

pub returns-clause-within : goal.returns-clause-within
returns-clause-within c = found_from [] c.args.self.now.nodes c.args.l.0 0 c.index.result.now (returns-clause-first c [])
