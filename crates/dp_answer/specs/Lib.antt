pub mod Needs
pub mod Replies
pub mod Serving
pub mod Responding
pub mod Sought
pub mod Calls
pub mod CallsNow
