mod Bisection
mod Member
mod Order
mod Walk
