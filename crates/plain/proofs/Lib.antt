pub mod Kept
pub mod Tables
pub mod Turns
