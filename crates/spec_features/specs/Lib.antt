-- Features, to be read in this order: parameters and constraints; how they are read from a document; when two expressions are
-- one fact; formulas; constraints as formulas over parameters and atoms; which configurations fit and which is first; how it is
-- found; clauses that say the same; and what all this comes to. Behind them, for structs alone, how theories are stored.
pub mod Features
pub mod Kind
pub mod Walk
pub mod Reading
pub mod Fact
pub mod Formula
pub mod Theory
pub mod Fits
pub mod Choice
pub mod Clauses
pub mod Laws
pub mod Codes
