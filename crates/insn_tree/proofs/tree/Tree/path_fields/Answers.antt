use Rattle.insn_tree.proofs.PathIdLaws.{fields_kept, fields_fit, fields_held}
use Rattle.insn_tree.proofs.tree.Tree.path_fields.Goals as goal

pub returns-clause-visible : goal.returns-clause-visible
returns-clause-visible c = fields_kept c.args.self.now c.args.p c.requires c.paths.result.now c.paths.ensures c.number.result c.number.ensures c.at.result.now c.at.ensures

pub returns-clause-within : goal.returns-clause-within
returns-clause-within c = fields_fit c.args.self.now c.args.p c.requires c.paths.result.now c.paths.ensures c.number.result c.number.ensures c.at.result.now c.at.ensures

pub returns-clause-held : goal.returns-clause-held
returns-clause-held c = fields_held c.args.self.now c.args.p c.requires c.paths.result.now c.paths.ensures c.number.result c.number.ensures c.at.result.now c.at.ensures
