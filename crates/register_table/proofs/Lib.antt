pub mod Round
pub mod Tally
pub mod Search
pub mod Least
pub mod Shift
pub mod Change
