pub mod Reason
pub mod Record
pub mod Lists
pub mod Growth
pub mod Reading
pub mod Refusals
