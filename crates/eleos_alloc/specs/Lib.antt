pub mod Calls
pub mod Changes
pub mod Runs
pub mod Stamping
pub mod Laws
