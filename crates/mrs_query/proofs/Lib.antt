pub mod TextParts
pub mod Plainly
pub mod Silent
pub mod Fulfilling
pub mod Performing
pub mod AssembledLaws
pub mod LeafLaws
pub mod Listing
