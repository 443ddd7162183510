mod Chosen
mod Counts
mod Given
mod Good
mod Items
mod Keys
mod Loop
mod Permits
pub mod Steps
mod Words
