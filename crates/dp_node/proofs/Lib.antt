pub mod Floors
pub mod Leading
pub mod Positions
pub mod NodeOpenings
