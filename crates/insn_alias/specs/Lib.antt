-- Read `Preference`: what the condition and the preference of an alias's node say of a word.
pub mod Preference
