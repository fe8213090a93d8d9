mod WorkedReading
mod WorkedEvents
mod WorkedValues
mod WorkedConditions
pub mod TruthLaws
pub mod DigitLaws
pub mod FieldLaws
pub mod StayLaws
pub mod FillLaws
pub mod ReadLaws
pub mod FormLaws
pub mod LimitLaws
pub mod ShapeReadLaws
