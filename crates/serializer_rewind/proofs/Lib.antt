mod Innermost
mod Any
