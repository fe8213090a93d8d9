-- Each word has a bucket among any leaves: each bit that is looked at leaves fewer of them. That it has no second one is
-- `BucketsAreOne`.
use Rattle.std.specs.Prelude.{ℕ, List}
use Rattle.spec_decode.specs.Bucket.{Encoding, Bucket}

abbrev pub WordsHaveBuckets : Type 0
WordsHaveBuckets = (w : ℕ) (es : List Encoding) → (out : List Encoding) × Bucket w out es
