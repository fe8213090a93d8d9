-- What the decision tree keeps, and what it answers.
--
-- Read first `Judged` and `Left`, the answers; then `Members` and `Decides`, which leaves a tree of bit tests tells apart,
-- `Deciders`, the decider of a tree, and `Formed`, what holds of its arrays.
pub mod Judged
pub mod Left
pub mod Members
pub mod Decides
pub mod Deciders
pub mod Formed
