pub mod HeaderBlocks
pub mod NameTables
