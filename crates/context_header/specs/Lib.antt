pub mod Algorithms
pub mod Header
pub mod Keys
