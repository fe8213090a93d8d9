use Rattle.std.proofs.Common.{◌∙◌}
use Rattle.insn_tree.proofs.PathIdLaws.{name_held, label_kept, number_kept}
use Rattle.insn_tree.proofs.tree.Tree.path_label.Goals as goal

pub label_of-requires : goal.label_of-requires
label_of-requires c =
    let own = c.requires.names in
    name_held c.args.self.now c.args.p c.requires.path c.paths-kept.result.now c.paths-kept.ensures c.number-k.result c.number-k.ensures c.args.names.now own.names_are own.held c.index.result.now c.index.ensures

pub returns-clause-text : goal.returns-clause-text
returns-clause-text c =
    let own = c.requires.names in
    c.label_of.ensures.text
    ∙ label_kept c.args.self.now c.args.p c.requires.path c.paths-kept.result.now c.paths-kept.ensures c.number-k.result c.number-k.ensures c.args.names.now own.names_are own.held c.index.result.now c.index.ensures c.index-2.result.now c.index-2.ensures

pub returns-clause-number : goal.returns-clause-number
returns-clause-number c =
    let own = c.requires.names in
    c.label_of.ensures.number
    ∙ number_kept c.args.self.now c.args.p c.requires.path c.paths-kept.result.now c.paths-kept.ensures c.number-k.result c.number-k.ensures c.args.names.now own.names_are own.held c.index-2.result.now c.index-2.ensures
