pub mod Range
pub mod Order
