use Rattle.insn_tree.proofs.PathIdLaws.{layout_kept, items_fit}
use Rattle.insn_tree.proofs.tree.Tree.path_layout.Goals as goal

pub returns-clause-numbers : goal.returns-clause-numbers
returns-clause-numbers c = layout_kept c.args.self.now c.args.p c.requires c.paths.result.now c.paths.ensures c.number.result c.number.ensures c.index.result.now c.index.ensures

pub returns-clause-within : goal.returns-clause-within
returns-clause-within c = items_fit c.args.self.now c.args.p c.requires c.paths.result.now c.paths.ensures c.number.result c.number.ensures
