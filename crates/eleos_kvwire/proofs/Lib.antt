mod Ends
mod Fed
mod Good
mod Joined
mod Limits
mod Steps
