pub mod Walk
pub mod Meaning
pub mod Rest
