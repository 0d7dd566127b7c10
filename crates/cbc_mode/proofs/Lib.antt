pub mod Advance
mod Facts
pub mod Inverse
pub mod Opening
pub mod Padding
pub mod Sums
