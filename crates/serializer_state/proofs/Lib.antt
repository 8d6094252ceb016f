pub mod Flag
pub mod Open
pub mod Lend
