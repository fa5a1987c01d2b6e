pub mod Sets
pub mod Columns
