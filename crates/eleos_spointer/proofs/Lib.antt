mod Counting
mod Unlinking
mod Changing
mod Places
pub mod Accessing
mod Stepping
mod Reaching
mod Quieting
mod Starving
mod Putting
mod Freeing
mod Fetching
mod Tying
mod FewPins
mod Taking
mod Judging
mod Linking
