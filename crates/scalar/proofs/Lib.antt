pub mod BigEndian
pub mod Place
pub mod Values
