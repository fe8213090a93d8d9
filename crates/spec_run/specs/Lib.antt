-- What a run of the program means, to be read in this order. How a run ends; what is opened, and how it is told that it is not; what
-- each command does, from `Work` to `Commands`; and what a run comes to. Then what each status says of the outside, from `Scene` to
-- `Answers`. Then what these come to: what the statuses say together, the configuration in use, the way back from lines to words,
-- and the listing theorem, which is put together from all of it.
pub mod End
pub mod Opening
pub mod Refutation
pub mod Work
pub mod Logs
pub mod Listing
pub mod Assembling
pub mod Configuring
pub mod Checking
pub mod Commands
pub mod Outcome
pub mod Scene
pub mod Opens
pub mod Ran
pub mod Answers
pub mod Fits
pub mod Exact
pub mod First
pub mod Fields
pub mod RoundTrip
pub mod Shows
pub mod Theorem
