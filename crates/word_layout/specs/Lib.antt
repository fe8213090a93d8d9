-- Bits of words as masks.
--
-- Read `Masks` first, numbers by the bits that they have; then `Views`, what the types of the code stand for.
pub mod Masks
pub mod Views
