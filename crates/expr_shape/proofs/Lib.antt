pub mod TextLaws
pub mod ArrayLaws
