mod Open
mod Joined
mod Added
mod Ordering
