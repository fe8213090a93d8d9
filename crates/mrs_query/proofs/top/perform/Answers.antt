use Rattle.mrs_query.proofs.Performing.{performs_opening}
use Rattle.mrs_query.proofs.top.perform.Goals as goal

pub returns-in-Err-fulfil-clause-performs : goal.returns-in-Err-fulfil-clause-performs
returns-in-Err-fulfil-clause-performs g c = performs_opening _ _ _ c.in-Ok.ensures.request c.in-Err-fulfil.error c.refused.result c.refused.ensures.tells c.in-Err-fulfil.ensures.fulfils
