-- What a draft stands for: `Drafted` first, then the parts of an encodeset that are read (`Parts`), the kinds of items
-- (`Kinds`), and how a draft is stored as lists (`Codes`).
pub mod Drafted
pub mod Parts
pub mod Kinds
pub mod Codes
