pub mod Lists
pub mod Moves
pub mod Steps
pub mod Holds
pub mod Releases
pub mod Gathers
pub mod Ends
pub mod Shares
