pub mod Crossed
pub mod Entered
pub mod Held
pub mod Exchanges
pub mod Evicted
pub mod Filled
