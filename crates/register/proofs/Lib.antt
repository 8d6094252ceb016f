pub mod Listed
pub mod Least
