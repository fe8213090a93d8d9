mod Worked
mod WorkedReadings
pub mod Sound
pub mod Outcome
pub mod Hinted
pub mod Numbers
pub mod Runs
pub mod Lines
pub mod Places
pub mod Signs
pub mod Header
pub mod LineEnds
pub mod Stopped
pub mod Judging
pub mod Agreement
pub mod WordReadings
pub mod LineReadings
pub mod LogLines
pub mod LogReadings
pub mod Failures
