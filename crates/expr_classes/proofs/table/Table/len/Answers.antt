use Rattle.std.proofs.Common.{ap, length, [], arith}
use Rattle.expr_classes.proofs.Growing.{terms_length}
use Rattle.expr_classes.proofs.table.Table.len.Goals as goal

pub returns-clause-count : goal.returns-clause-count
returns-clause-count c = omega (arith, c.len.ensures.len, terms_length [] c.self.inside.keys.keys, ap length c.self.view_is)
