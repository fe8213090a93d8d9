use Rattle.feat_model.proofs.NamedLaws.{named_result}
use Rattle.feat_model.proofs.configuring.configure.Goals as goal

pub returns-clause-named : goal.returns-clause-named
returns-clause-named c = let told = c.configured.ensures in named_result c.args.model.now c.args.pins.now c.configured.result told.outcome told.exact told.known told.unknown
