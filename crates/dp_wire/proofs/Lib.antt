pub mod Fields
pub mod Chains
pub mod Sealings
pub mod Rooms
pub mod Frames
pub mod Bodies
