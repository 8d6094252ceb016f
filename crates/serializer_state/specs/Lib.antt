pub mod Extents
pub mod View
pub mod Declines
