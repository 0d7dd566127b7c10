pub mod Decimals
pub mod Lawful
pub mod Options
pub mod Lengths
pub mod BadPlaces
pub mod Openings
pub mod Unserved
