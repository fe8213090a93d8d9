use Rattle.std.proofs.Common.{◌≡◌, ◌∙◌, sym, ap, subst, slice_index_or, ℕ, List}
use Rattle.std.proofs.lemmas.Option.{slice_get-get_or, get_or_from_slice_get}
use Rattle.mrs_arena.specs.Flat.{FlatNode}
use Rattle.mrs_arena.specs.Nodes.{parents_of}
use Rattle.mrs_arena.specs.Paths.{ancestors}
use Rattle.mrs_arena.specs.Placed.{text_of, leaves_of}
use Rattle.ast_eval.specs.Choices.{configuration_of}
use Rattle.ast_eval.specs.Views.{truth_of}
use Rattle.insn_tree.specs.Verdicts.{AreConditions}
use Rattle.insn_tree.specs.OwnTexts.{conditions_up}
use Rattle.insn_tree.specs.Trees.{TreeParts}
use Rattle.insn_tree.proofs.LeafKeptLaws.{AreLeaves-of}
use Rattle.insn_tree.proofs.TruthLaws.{leaf_conditions_are, no_conditions_at}
use Rattle.insn_tree.proofs.OwnTextLaws.{leaf_free}
use Rattle.insn_tree.proofs.tree.Tree.conditions.Goals as goal

pub returns-then-not-index-clause-truth : goal.returns-then-not-index-clause-truth
returns-then-not-index-clause-truth c names held =
    let nodes = c.args.self.now.nodes in
    let l = c.args.l.0 in
    let kept = AreLeaves-of c.self.inside.leaves c.self.inside.arena.nodes nodes (ap (λ (t : TreeParts). t.nodes) c.self.view_is) c.self.invariant.0 in
    let leaf = slice_get-get_or (leaves_of nodes) l 0 c.requires in
    let yes = no_conditions_at names nodes (configuration_of (text_of names) c.args.config.now) c.args.w l (slice_index_or (leaves_of nodes) l 0) leaf c.self.inside.leaves.conditioned.items c.index.result.now kept.conditioned_are c.index.ensures c.if-not-index.true in
    leaf_conditions_are names nodes (configuration_of (text_of names) c.args.config.now) c.args.w l (slice_index_or (leaves_of nodes) l 0) leaf _ yes

pub returns-clause-truth : goal.returns-clause-truth
returns-clause-truth c names held =
    let nodes = c.args.self.now.nodes in
    let told = subst (λ ns. AreConditions ns c.leaf_node.result.0 c.args.config.now c.args.w (truth_of c.conditions_hold.result)) (ap (λ (t : TreeParts). t.nodes) c.self.view_is) c.conditions_hold.ensures.named in
    leaf_conditions_are names nodes (configuration_of (text_of names) c.args.config.now) c.args.w c.args.l.0 c.leaf_node.result.0 c.leaf_node.ensures.node _ (told names held)

pub returns-then-not-index-clause-own : goal.returns-then-not-index-clause-own
returns-then-not-index-clause-own c =
    let nodes = c.args.self.now.nodes in
    let kept = AreLeaves-of c.self.inside.leaves c.self.inside.arena.nodes nodes (ap (λ (t : TreeParts). t.nodes) c.self.view_is) c.self.invariant.0 in
    sym (leaf_free nodes c.args.config.now c.args.w c.args.l.0 c.requires c.self.inside.leaves.conditioned.items c.index.result.now kept.conditioned_are c.index.ensures c.if-not-index.true)

pub returns-clause-own : goal.returns-clause-own
returns-clause-own c =
    let nodes = c.args.self.now.nodes in
    let told = subst (λ (ns : List FlatNode). truth_of c.conditions_hold.result ≡ conditions_up ns c.args.config.now c.args.w (ancestors (parents_of ns) c.leaf_node.result.0)) (ap (λ (t : TreeParts). t.nodes) c.self.view_is) c.conditions_hold.ensures.own in
    told
    ∙ ap (λ (n : ℕ). conditions_up nodes c.args.config.now c.args.w (ancestors (parents_of nodes) n)) (sym (get_or_from_slice_get (leaves_of nodes) c.args.l.0 c.leaf_node.result.0 0 c.leaf_node.ensures.node))
