pub mod Cells
pub mod Terms
pub mod Serving
pub mod Runs
pub mod Ends
pub mod Making
