pub mod Statuses
pub mod Words
pub mod Commands
pub mod Show
pub mod Outcomes
pub mod Pipe
