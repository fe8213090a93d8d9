use Rattle.feat_proof.proofs.OneAnswer.{each_log, each_fault}
use Rattle.feat_proof.proofs.reading.read_log.Goals as goal

pub returns-clause-each_log : goal.returns-clause-each_log
returns-clause-each_log c = each_log c.args.text.now c.parsed.result c.parsed.ensures.log c.parsed.ensures.syntax

pub returns-clause-each_fault : goal.returns-clause-each_fault
returns-clause-each_fault c = each_fault c.args.text.now c.parsed.result c.parsed.ensures.log c.parsed.ensures.syntax
