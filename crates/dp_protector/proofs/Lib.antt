mod Bodies
mod Codes
pub mod Defaults
mod Everywhere
mod Forms
mod Heads
mod Sealing
pub mod Taken
mod Texts
pub mod Lengths
