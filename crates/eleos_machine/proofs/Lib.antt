mod Lawful
mod Listed
mod Stamps
mod CellsInOrder
mod Judged
mod Wholes
mod Refusals
mod FewCells
mod Sweeps
pub mod Entries
