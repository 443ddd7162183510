pub mod True
pub mod Numbers
pub mod Items
pub mod Accessing
pub mod Filling
pub mod Summing
