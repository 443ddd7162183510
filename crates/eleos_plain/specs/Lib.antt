pub mod Texts
pub mod Enclaves
pub mod Memory
