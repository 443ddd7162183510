pub mod Lists
pub mod Searches
pub mod Answered
pub mod Going
pub mod Frees
pub mod Turns
