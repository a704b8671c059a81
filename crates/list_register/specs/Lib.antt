pub mod Calls
pub mod Entries
pub mod Meaning
pub mod Shown
