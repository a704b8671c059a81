pub mod Held
pub mod Opened
pub mod Records
pub mod Walks
