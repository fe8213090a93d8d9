-- The lines of words, printed and read back.
--
-- Read in this order. What is printed of a word: `Hex`, `Pairs`, `Way` (a leaf or an alias, with its fields), `LoneLeaf`,
-- `FullLine`, `BareLine`; of a stream: `Words`, `Streams`; of a leaf: `Leaf`, `LeafFields`, `LeafAliases`; of a log: `LogLine`.
-- What is read: `Token`, `LineFault`, `Given`, `Parsed`, `Reasons`; of a stream: `Cut`, `Assembly`. What this comes to:
-- `Encoded` (a line's fields tell the word), `ReadBack` (bare lines are read back), and `SoundAliases`, on which the latter
-- rests.
pub mod Hex
pub mod Pairs
pub mod Way
pub mod LoneLeaf
pub mod FullLine
pub mod BareLine
pub mod Words
pub mod Streams
pub mod Leaf
pub mod LeafFields
pub mod LeafAliases
pub mod LogLine
pub mod Token
pub mod LineFault
pub mod Given
pub mod Parsed
pub mod Reasons
pub mod Cut
pub mod Assembly
pub mod Encoded
pub mod ReadBack
pub mod SoundAliases
