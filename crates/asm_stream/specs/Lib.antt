pub mod Lines
pub mod SoFar
pub mod Pieces
pub mod Progress
pub mod Endings
pub mod Assembles
