-- What the shapes of the code stand for.
pub mod Shapes
