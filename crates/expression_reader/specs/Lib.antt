-- What an expression that is read stands for.
pub mod ExprsRead
