use Rattle.ast_eval.proofs.PathLaws.{fields_to}
use Rattle.ast_eval.proofs.env.Env.at.Goals as goal

pub returns-clause-fields : goal.returns-clause-fields
returns-clause-fields c names = fields_to names c.args.arena.now.nodes c.args.node.0
