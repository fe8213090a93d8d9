use Rattle.std.proofs.Common.{◌+◌, ap, []}
use Rattle.insn_tree.specs.Trees.{TreeParts}
use Rattle.insn_tree.specs.Trees.{alias_at}
use Rattle.insn_tree.proofs.AliasKeptLaws.{AreAliases-of, next_kept, found_after, found_from}
use Rattle.insn_tree.proofs.tree.Tree.next_alias.Goals as goal

pub returns-clause-next : goal.returns-clause-next
returns-clause-next c =
    let kept = AreAliases-of c.self.inside.aliases c.self.inside.arena.nodes c.args.self.now.nodes (ap (λ (t : TreeParts). t.nodes) c.self.view_is) c.self.invariant.1 in
    next_kept c.args.self.now.nodes c.self.inside.aliases kept c.args.a.0 c.requires c.index.result.now c.index.ensures

pub returns-clause-after : goal.returns-clause-after
returns-clause-after c = found_after [] c.args.self.now.nodes (alias_at [] c.args.self.now c.args.a.0).leaf c.args.a.0 c.index.result.now (returns-clause-next c [])

pub returns-clause-within : goal.returns-clause-within
returns-clause-within c = found_from [] c.args.self.now.nodes (alias_at [] c.args.self.now c.args.a.0).leaf (c.args.a.0 + 1) c.index.result.now (returns-clause-next c [])
