pub mod Expanded
pub mod Sliced
