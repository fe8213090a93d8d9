-- Read `Commands`: what verbs, commands and requests of the code stand for. `Words` serves the search for the first bad word.
pub mod Commands
pub mod Words
