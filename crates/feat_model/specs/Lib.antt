-- The model, to be read in this order: what holds of it and what its fields stand for; what features and pins come to, by the
-- numbers of names and by their texts. Behind them, for the code alone: what its formulas stand for, and steps on the way from
-- expressions to formulas and from these to clauses.
pub mod Inside
pub mod Configures
pub mod Named
pub mod Views
pub mod Asked
pub mod Found
pub mod Meets
pub mod Encodes
