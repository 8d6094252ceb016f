pub mod Passes
pub mod Walk
