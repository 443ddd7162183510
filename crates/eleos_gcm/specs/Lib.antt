pub mod Horner
pub mod Stream
