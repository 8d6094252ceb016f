pub mod Width
pub mod Feed
