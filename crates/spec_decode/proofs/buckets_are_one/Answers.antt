use Rattle.spec_decode.proofs.BucketLaws.{buckets_are_one}
use Rattle.spec_decode.proofs.buckets_are_one.Goals as goal

pub returns : goal.returns
returns c = buckets_are_one
