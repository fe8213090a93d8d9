-- What features stand for (`FeatureViews`), and what reading a Features document gives (`FeaturesRead`).
pub mod FeatureViews
pub mod FeaturesRead
