pub mod Course
pub mod Lists
pub mod Flight
pub mod Path
pub mod Settle
pub mod Way
pub mod Placing
