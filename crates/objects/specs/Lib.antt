pub mod Slots
pub mod Contents
pub mod Kinds
pub mod Change
pub mod Steps
pub mod Loose
