pub mod Answers
pub mod Commands
pub mod Fields
pub mod Grammar
pub mod Laws
pub mod Log
pub mod Reading
