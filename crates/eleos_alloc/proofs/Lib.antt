pub mod TurnsHeld
pub mod Calling
pub mod Changing
pub mod Marking
pub mod Outer
pub mod Complete
