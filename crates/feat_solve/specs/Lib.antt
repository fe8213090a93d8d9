-- The solver, to be read in this order: what it answers; the trail of the search; what a look at clauses tells; what a conflict
-- teaches; what each turn of the search makes of all this; and, for the code alone, the tables that are kept beside the trail
-- and how far clauses reach.
pub mod Answers
pub mod Trail
pub mod Looks
pub mod Learnt
pub mod Turns
pub mod Tables
pub mod Reach
