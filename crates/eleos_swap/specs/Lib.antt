pub mod Making
pub mod Ends
pub mod Evicts
pub mod Rounds
pub mod Surveys
