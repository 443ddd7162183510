pub mod Parsed
pub mod Flags
