pub mod Sets
pub mod Four
