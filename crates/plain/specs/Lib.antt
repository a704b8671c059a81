pub mod Kept
pub mod Meaning
pub mod Sources
pub mod Steps
pub mod Table
