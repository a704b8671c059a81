pub mod Choosing
pub mod Empties
pub mod Looking
