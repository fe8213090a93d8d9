use Rattle.feat_model.proofs.Sole.{no_sole}
use Rattle.feat_model.proofs.asking.sole_name.Goals as goal

pub returns-in_default-2 : goal.returns-in_default-2
returns-in_default-2 c = no_sole _ c.args.args.now c.in_default.len_at_least
