-- Read in this order: what a name is (`Name`); and lists without what stands in them twice (`Distinct`).
pub mod Name
pub mod Distinct
