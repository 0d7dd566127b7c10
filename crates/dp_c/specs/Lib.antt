pub mod Bodies
pub mod Limits
