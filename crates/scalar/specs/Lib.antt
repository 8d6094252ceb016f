pub mod BigEndian
pub mod Kinds
pub mod Laws
pub mod Numbers
pub mod Place
pub mod Scalars
pub mod Small
