pub mod Bits
pub mod Counting
pub mod Ids
pub mod Lowest
pub mod Urgency
pub mod Words
