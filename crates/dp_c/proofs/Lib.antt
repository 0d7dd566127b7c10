pub mod Codes
pub mod Tagged
