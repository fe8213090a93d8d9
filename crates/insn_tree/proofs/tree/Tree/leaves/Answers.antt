use Rattle.std.proofs.Common.{length, ap, arith}
use Rattle.mrs_arena.specs.Limits.{is_leaf}
use Rattle.mrs_arena.specs.Placed.{has_kind, leaves_of}
use Rattle.insn_tree.proofs.LeafLaws.{kept_few}
use Rattle.insn_tree.proofs.LeafKeptLaws.{AreLeaves-of, few_kept}
use Rattle.insn_tree.proofs.HoldLaws.{paths_within}
use Rattle.insn_tree.specs.Trees.{TreeParts}
use Rattle.insn_tree.proofs.tree.Tree.leaves.Goals as goal

pub overflow_cast-result : goal.overflow_cast-result
overflow_cast-result c =
    let kept = c.self.invariant.0 in
    let nodes = c.self.inside.arena.nodes in
    omega (arith, c.len.ensures, c.self.inside.leaves.paths.nodes.ok.0, few_kept nodes kept.paths.formed c.self.inside.leaves.paths.nodes.items (leaves_of nodes) kept.paths.nodes_are (kept_few (has_kind is_leaf nodes) (length nodes)))

pub returns-clause-within : goal.returns-clause-within
returns-clause-within c names =
    paths_within names c.args.self.now.nodes (AreLeaves-of c.self.inside.leaves c.self.inside.arena.nodes c.args.self.now.nodes (ap (λ (t : TreeParts). t.nodes) c.self.view_is) c.self.invariant.0).paths.formed

pub returns-clause-few : goal.returns-clause-few
returns-clause-few c =
    let kept = c.self.invariant.0 in
    let nodes = c.self.inside.arena.nodes in
    omega (arith, c.len.ensures, c.self.inside.leaves.paths.nodes.ok.0, few_kept nodes kept.paths.formed c.self.inside.leaves.paths.nodes.items (leaves_of nodes) kept.paths.nodes_are (kept_few (has_kind is_leaf nodes) (length nodes)))
