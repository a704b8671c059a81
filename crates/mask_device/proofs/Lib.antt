pub mod Sets
pub mod Steps
