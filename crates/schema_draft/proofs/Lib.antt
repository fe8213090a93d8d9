pub mod MarkLaws
pub mod PlacedLaws
pub mod TakenLaws
pub mod CountLaws
pub mod DraftLaws
pub mod KeptLaws
pub mod StepRules
pub mod ItemLaws
