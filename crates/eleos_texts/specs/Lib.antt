pub mod Fields
pub mod Reasons
pub mod Texts
pub mod Heads
