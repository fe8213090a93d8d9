use Rattle.std.proofs.Common.{length, arith}
use Rattle.mrs_arena.specs.Limits.{is_alias}
use Rattle.mrs_arena.specs.Placed.{has_kind, aliases_of}
use Rattle.insn_tree.proofs.LeafLaws.{kept_few}
use Rattle.insn_tree.proofs.LeafKeptLaws.{few_kept}
use Rattle.insn_tree.proofs.tree.Tree.aliases.Goals as goal

pub overflow_cast-result : goal.overflow_cast-result
overflow_cast-result c =
    let kept = c.self.invariant.1 in
    let nodes = c.self.inside.arena.nodes in
    omega (arith, c.len.ensures, c.self.inside.aliases.paths.nodes.ok.0, few_kept nodes kept.paths.formed c.self.inside.aliases.paths.nodes.items (aliases_of nodes) kept.paths.nodes_are (kept_few (has_kind is_alias nodes) (length nodes)))
