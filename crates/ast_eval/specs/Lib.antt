-- Evaluation, to be read in this order: what this crate's types stand for; the fields that are visible at a node; the configuration
-- that choices stand for; what an expression is worth. Behind them, for the code alone: what the fields of its structs stand
-- for, and steps on the way.
pub mod Views
pub mod Fields
pub mod Choices
pub mod Worth
pub mod ConfigView
pub mod EnvView
pub mod Called
pub mod Rows
pub mod BitNumber
