pub mod GivenLaws
pub mod ExclusionLaws
pub mod EncodingLaws
pub mod ShownLaws
mod PathLaws
