pub mod BitsLaws
pub mod ChoiceLaws
pub mod LastLaws
pub mod PartLaws
pub mod PathLaws
pub mod SameLaws
pub mod SliceLaws
pub mod TextLaws
