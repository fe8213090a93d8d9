-- Read in this order: places (`Pointer`); what is met, and why a document is refused (`Event`); the limits (`Limits`); a walk as its
-- events and what stands behind them (`Walk`); its first fault, and what it answers (`FirstFault`); the words that walks are written in
-- (`Spot`); and walks that go down into values (`Descend`). `Name` passes on what a name is.
pub mod Pointer
pub mod Event
pub mod Limits
pub mod Walk
pub mod FirstFault
pub mod Spot
pub mod Descend
pub mod Name
