pub mod OwnLaws
pub mod NodeLaws
pub mod AliasLaws
pub mod ConditionLaws
pub mod SetLaws
pub mod ShapedLaws
pub mod ReleaseLaws
