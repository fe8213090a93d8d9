pub mod Laws
pub mod CommandLaws
pub mod PinLaws
mod Worked
mod WorkedNumbers
