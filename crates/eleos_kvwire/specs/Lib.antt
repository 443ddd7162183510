pub mod Header
pub mod Commands
pub mod Reading
pub mod Sessions
pub mod Feeding
pub mod Steps
