-- Refutations, to be read in this order: literals, clauses and assignments; the rule by which a step follows from its hints;
-- when a log refutes, and where it fails; which list of states is the first that satisfies; the text of a log; which texts are
-- read, and where the reading of any other stops; the same as a reading; and, for the code alone, what stands at the front of a
-- text.
pub mod Literals
pub mod Derivation
pub mod Refutation
pub mod First
pub mod Text
pub mod Reading
pub mod LogReading
pub mod Scans
