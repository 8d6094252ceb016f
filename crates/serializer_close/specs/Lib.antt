pub mod Twins
pub mod Steps
