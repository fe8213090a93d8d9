-- Which leaves a word is found at, and how.
--
-- Read in this order: `Verdict`, what a path says of a word; `Found`, the leaves at which the word is found; `Preferred`, the
-- alias of a leaf that is preferred at it; `Machine`, what all of this is asked of; `Bucket` and `HasBucket`, the few leaves
-- among which a word is looked up.
pub mod Verdict
pub mod Found
pub mod Preferred
pub mod Machine
pub mod Bucket
pub mod HasBucket
