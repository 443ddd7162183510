pub mod Numbers
pub mod Rules
pub mod Passes
pub mod States
pub mod Calls
pub mod Table
pub mod Jobs
pub mod Turns
