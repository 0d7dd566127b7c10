pub mod Fronts
pub mod Keeps
pub mod Tails
pub mod Calls
pub mod Meetings
pub mod Makings
pub mod Marks
