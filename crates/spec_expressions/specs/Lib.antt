-- Read in this order: expressions (`Expression`); how one is read: the kinds of objects (`Kind`), the shape of an object (`Shape`) and the
-- walk (`Reading`); what one is worth: truths (`Truth`), what is visible (`Scope`), digits (`Digits`), operations on values
-- (`Operations`) and the value (`Value`); how the value changes as more becomes known (`Known`); and what this comes to (`Laws`).
-- `Codes` stores expressions as lists of numbers.
pub mod Expression
pub mod Kind
pub mod Shape
pub mod Reading
pub mod Truth
pub mod Scope
pub mod Digits
pub mod Operations
pub mod Value
pub mod Known
pub mod Laws
pub mod Codes
