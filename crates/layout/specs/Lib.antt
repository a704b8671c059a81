pub mod Fields
pub mod Layouts
pub mod Offsets
