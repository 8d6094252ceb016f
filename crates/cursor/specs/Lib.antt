pub mod Flags
pub mod Cursor
