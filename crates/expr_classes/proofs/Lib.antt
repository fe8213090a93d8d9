pub mod Keys
pub mod Injective
pub mod Growing
pub mod Inserted
pub mod Lists
pub mod Layers
pub mod Final
