pub mod Input
pub mod Log
pub mod MainEnds
pub mod Outcome
pub mod Replays
pub mod RunEnds
pub mod Scenes
pub mod Sessions
