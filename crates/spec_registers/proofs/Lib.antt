mod Worked
pub mod GapLaws
pub mod ViewLaws
pub mod SoundLaws
