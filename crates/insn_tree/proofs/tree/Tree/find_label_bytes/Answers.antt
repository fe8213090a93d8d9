use Rattle.std.proofs.Common.{◌∙◌, sym, ap}
use Rattle.mrs_arena.specs.Placed.{leaves_of}
use Rattle.insn_tree.specs.Trees.{TreeParts, number_of}
use Rattle.insn_tree.proofs.KeptLaws.{labelled_within}
use Rattle.insn_tree.proofs.tree.Tree.find_label_bytes.Goals as goal

pub returns-in-Some-clause-within : goal.returns-in-Some-clause-within
returns-in-Some-clause-within c =
    labelled_within c.args.names.now c.args.self.now.nodes (leaves_of c.args.self.now.nodes) c.args.text.now c.in-Some.leaf
    (sym (c.requires.labels c.args.text.now) ∙ ap (λ (t : TreeParts). number_of c.args.text.now t.labels) (sym c.self.view_is) ∙ sym c.find.ensures ∙ c.in-Some.is)
