mod Count
mod Taken
mod Going
