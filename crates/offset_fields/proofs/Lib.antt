mod Offset
mod Way
mod Reach
mod Put
