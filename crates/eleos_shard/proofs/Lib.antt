pub mod Texts
pub mod Keyed
pub mod Pieces
pub mod Facts
pub mod NeverFull
pub mod Serving
pub mod Asking
