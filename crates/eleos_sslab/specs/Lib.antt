pub mod Sizes
pub mod Blocks
pub mod Slabs
pub mod Calls
