pub mod Offsets
pub mod Packing
pub mod Ranges
