mod Sets
mod Numbering
mod Hints
mod Digits
mod OneAnswer
