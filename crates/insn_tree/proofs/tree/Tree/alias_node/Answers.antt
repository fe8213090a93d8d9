use Rattle.std.proofs.Common.{◌∙◌, ap}
use Rattle.std.proofs.lemmas.Option.{get_or_from_slice_get}
use Rattle.spec_instructions.specs.Aliases.{AliasPath}
use Rattle.mrs_arena.specs.Placed.{own_at, aliases_of}
use Rattle.insn_tree.proofs.AliasLaws.{alias-at}
use Rattle.insn_tree.proofs.tree.Tree.alias_node.Goals as goal

pub returns-clause-own : goal.returns-clause-own
returns-clause-own c names =
    let nodes = c.args.self.now.nodes in
    ap (λ (alias : AliasPath). alias.own) (alias-at names nodes c.args.a.0 c.requires)
    ∙ ap (own_at names nodes) (get_or_from_slice_get (aliases_of nodes) c.args.a.0 c.path_node.result.0 0 c.path_node.ensures.node)
