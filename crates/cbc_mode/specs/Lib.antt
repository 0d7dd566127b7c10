pub mod Pad
pub mod Cbc
