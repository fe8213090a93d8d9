-- Registers: their fieldsets, fields and accessor entries; how they are read from a document, fields first, then keys and
-- accessors, then the whole; what holds of those that are read; which ones have a name; the gaps of a fieldset, and what it
-- shows of a value; and how registers are stored.
pub mod Registers
pub mod Name
pub mod Limits
pub mod Kind
pub mod Fields
pub mod Key
pub mod Ahead
pub mod Accessors
pub mod Walk
pub mod Reading
pub mod Gaps
pub mod Sound
pub mod Named
pub mod View
pub mod Renamed
pub mod Codes
