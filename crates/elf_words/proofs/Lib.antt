pub mod HeaderLaws
pub mod WithinLaws
pub mod SectionLaws
