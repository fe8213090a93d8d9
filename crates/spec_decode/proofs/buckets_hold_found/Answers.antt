use Rattle.spec_decode.proofs.BucketLaws.{buckets_hold_found}
use Rattle.spec_decode.proofs.buckets_hold_found.Goals as goal

pub returns : goal.returns
returns c = buckets_hold_found
