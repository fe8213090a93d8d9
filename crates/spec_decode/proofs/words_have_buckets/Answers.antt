use Rattle.spec_decode.proofs.BucketsEnd.{words_have_buckets}
use Rattle.spec_decode.proofs.words_have_buckets.Goals as goal

pub returns : goal.returns
returns c = words_have_buckets
