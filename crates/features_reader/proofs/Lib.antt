pub mod ConstraintLaws
pub mod OnceLaws
pub mod ParamLaws
pub mod ParamReadLaws
pub mod FeatureLaws
