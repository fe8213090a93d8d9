-- Read in this order: bits (`Bits`); patterns of digits (`Pattern`), the numbers that they write (`Number`) and their texts
-- (`PatternText`); and the items of an encoding (`Item`).
pub mod Bits
pub mod Pattern
pub mod Number
pub mod PatternText
pub mod Item
