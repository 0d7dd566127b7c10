pub mod Combing
pub mod Counting
mod Facts
pub mod Hashing
pub mod Multiples
pub mod Reducing
pub mod Turns
