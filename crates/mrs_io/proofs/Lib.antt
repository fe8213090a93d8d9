pub mod Causes
pub mod Parts
mod Examples
