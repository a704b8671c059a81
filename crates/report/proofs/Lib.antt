pub mod Area
pub mod Lengths
pub mod Plays
pub mod Reports
