mod Worked
mod WorkedWalk
pub mod Encoding
pub mod Assignments
pub mod Uses
pub mod Exact
pub mod Firsts
pub mod Sizes
pub mod FactLaws
pub mod Renamed
pub mod PartLaws
pub mod ChoiceLaws
pub mod Distinct
