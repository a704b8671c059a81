pub mod Levels
pub mod Links
pub mod Order
pub mod Places
pub mod Queues
pub mod Rings
