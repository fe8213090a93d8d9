-- To be read in this order: numbers of a file, its section headers, the sections that are chosen, and why a file is refused.
pub mod Numbers
pub mod Headers
pub mod Sections
pub mod Refusal
