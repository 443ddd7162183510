pub mod Maps
pub mod Keys
pub mod Shards
pub mod Steps
