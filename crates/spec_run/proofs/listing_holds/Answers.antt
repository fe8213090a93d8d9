use Rattle.spec_run.proofs.TheoremLaws.{listing_holds}
use Rattle.spec_run.proofs.listing_holds.Goals as goal

pub returns : goal.returns
returns c = listing_holds
