pub mod Looks
pub mod Calling
