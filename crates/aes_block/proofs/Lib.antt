pub mod Equivalent
pub mod Expanded
pub mod Facts
pub mod RoundLemmas
pub mod Rows
pub mod Schedule
pub mod Words
