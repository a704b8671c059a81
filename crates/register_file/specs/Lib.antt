pub mod Picking
pub mod Registers
pub mod Settings
pub mod There
