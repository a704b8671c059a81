pub mod Counts
pub mod Cpu
pub mod Lists
pub mod Meaning
pub mod Preemption
pub mod Sets
