-- What this crate's types stand for, the headers of a table, and the sections that are left.
pub mod Views
pub mod Left
