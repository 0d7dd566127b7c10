pub mod Chains
pub mod Frame
pub mod Purposes
pub mod Request
pub mod Reading
pub mod Replies
