pub mod BitLaws
pub mod NumberLaws
pub mod PatternLaws
pub mod ItemLaws
pub mod TextLaws
pub mod Worked
pub mod AppendLaws
