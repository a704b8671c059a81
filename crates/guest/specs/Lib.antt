pub mod Interrupts
pub mod Book
pub mod Replies
pub mod Calls
