pub mod Highest
pub mod Meaning
pub mod Pending
pub mod Sets
pub mod Step
