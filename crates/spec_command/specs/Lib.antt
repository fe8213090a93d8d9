-- Read in this order: the numbers that texts say; settings `key=value`; what is asked of settings, and pins, which are asked for
-- together; the verbs with their keys and what each asks for (`Commands`); the command that words say, or the first bad word
-- (`Words`); and what they ask for.
pub mod Number
pub mod Setting
pub mod Ask
pub mod Pins
pub mod Commands
pub mod Words
pub mod Request
