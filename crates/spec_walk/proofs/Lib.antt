pub mod Worked
pub mod WalkLaws
pub mod DescendLaws
pub mod EveryLaws
pub mod FirstFaultLaws
pub mod CountLaws
