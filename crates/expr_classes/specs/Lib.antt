-- Classes, to be read in this order: the classes of expressions that state one fact; what keys stand for.
pub mod Classes
pub mod Terms
