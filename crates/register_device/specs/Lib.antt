pub mod Access
pub mod Meaning
pub mod Words
