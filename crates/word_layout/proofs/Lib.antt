pub mod MaskLaws
pub mod OverLaws
pub mod OverRules
pub mod LayoutLaws
pub mod OpenLaws
pub mod PlacedLaws
pub mod NumberLaws
