pub mod Commands
pub mod Responses
