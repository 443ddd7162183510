pub mod MapTexts
pub mod Giving
pub mod Placing
pub mod Opening
