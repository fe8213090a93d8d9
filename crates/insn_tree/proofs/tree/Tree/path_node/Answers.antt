use Rattle.insn_tree.proofs.PathIdLaws.{node-within, node-path}
use Rattle.insn_tree.proofs.tree.Tree.path_node.Goals as goal

pub returns-clause-within : goal.returns-clause-within
returns-clause-within c = node-within c.args.self.now c.args.p c.requires c.paths.result.now c.paths.ensures c.number.result c.number.ensures c.index.result.now c.index.ensures

pub returns-clause-path : goal.returns-clause-path
returns-clause-path c = node-path c.args.self.now c.args.p c.requires c.paths.result.now c.paths.ensures c.number.result c.number.ensures c.index.result.now c.index.ensures
