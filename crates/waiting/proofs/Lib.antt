pub mod Chains
pub mod Lists
pub mod Steps
pub mod Tables
pub mod Waiting
