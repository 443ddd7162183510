pub mod Held
pub mod Accesses
pub mod Laws
pub mod Desks
