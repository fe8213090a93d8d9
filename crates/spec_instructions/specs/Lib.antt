-- Read in this order: limits (`Limits`), kinds of nodes (`Kind`) and the tree (`Tree`); how a document is read: an encodeset
-- (`Encodeset`), the walk (`Walk`) and what it answers (`Reading`); the paths to the leaves with their labels (`Paths`), the aliases
-- (`Aliases`) and the visible fields (`Fields`); and what holds of every accepted document (`Shape`, `SoundPaths`). `Name` passes on
-- what a name is; `Codes` stores what a node says of itself as lists of numbers.
pub mod Limits
pub mod Kind
pub mod Tree
pub mod Encodeset
pub mod Walk
pub mod Reading
pub mod Paths
pub mod Aliases
pub mod Fields
pub mod Shape
pub mod SoundPaths
pub mod Name
pub mod Codes
