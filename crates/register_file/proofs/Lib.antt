pub mod Entries
pub mod Holders
pub mod Kept
pub mod Lines
pub mod Places
