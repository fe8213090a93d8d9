-- What ties the code of this crate to the definitions of `spec_refutation`, to be read in this order: what `read_log` answers;
-- and, for the code alone, when two lists of literals are one set.
pub mod Answers
pub mod Members
