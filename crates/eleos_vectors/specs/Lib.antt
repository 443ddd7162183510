pub mod Answers
pub mod Vectors
pub mod Rooms
