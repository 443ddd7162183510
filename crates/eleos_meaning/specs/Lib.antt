pub mod Names
pub mod NameTable
pub mod Meanings
pub mod Calls
pub mod Told
pub mod Programs
pub mod Table
