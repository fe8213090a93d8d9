mod PreferenceLaws
pub mod WalkLaws
