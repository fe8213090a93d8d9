-- Words from values of fields, in three steps.
--
-- Read in this order. Bits: `Parts`, fields with values; `Layout`, what is known of the bits of words, and rests; `Refusal`,
-- why there is no word; `Placed`, the word that parts and a rest make. Names: `Named`, pairs of names and values as parts.
-- The path: `PathLayout`, what a path says of the bits and which fields it shows; `Encoding`, the word along a path.
pub mod Parts
pub mod Layout
pub mod Refusal
pub mod Placed
pub mod Named
pub mod PathLayout
pub mod Encoding
