pub mod Round
pub mod Cells
pub mod Shift
pub mod Meaning
pub mod Laws
