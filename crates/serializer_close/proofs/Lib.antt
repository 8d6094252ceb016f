mod Least
mod Sharing
