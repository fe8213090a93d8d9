use Rattle.std.proofs.Common.{◌∙◌, sym, ap, List}
use Rattle.spec_instructions.specs.Tree.{Own}
use Rattle.spec_instructions.specs.Paths.{labelled_path}
use Rattle.mrs_arena.specs.Placed.{aliases_of}
use Rattle.insn_tree.specs.Trees.{TreeParts, number_of}
use Rattle.insn_tree.proofs.KeptLaws.{labelled_within}
use Rattle.insn_tree.proofs.AliasLaws.{alias_paths-are}
use Rattle.insn_tree.proofs.AliasKeptLaws.{AreAliases-of}
use Rattle.insn_tree.proofs.tree.Tree.find_alias_bytes.Goals as goal

pub returns-in-Some-clause-within : goal.returns-in-Some-clause-within
returns-in-Some-clause-within c =
    let kept = AreAliases-of c.self.inside.aliases c.self.inside.arena.nodes c.args.self.now.nodes (ap (λ (t : TreeParts). t.nodes) c.self.view_is) c.self.invariant.1 in
    let nodes = c.args.self.now.nodes in
    labelled_within c.args.names.now nodes (aliases_of nodes) c.args.text.now c.in-Some.alias
    (ap (λ (paths : List (List Own)). labelled_path paths c.args.text.now) (sym (alias_paths-are c.args.names.now nodes kept.paths.formed)) ∙ sym (c.requires.alias_labels c.args.text.now) ∙ ap (λ (t : TreeParts). number_of c.args.text.now t.alias_labels) (sym c.self.view_is) ∙ sym c.find.ensures ∙ c.in-Some.is)
