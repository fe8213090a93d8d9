pub mod FoundLaws
pub mod VerdictLaws
pub mod ConditionLaws
pub mod HoldLaws
pub mod BucketLaws
pub mod BucketsEnd
pub mod PreferredLaws
mod Worked
mod WorkedBuckets
mod WorkedPreferred
