pub mod Few
pub mod Keys
pub mod Places
pub mod Said
