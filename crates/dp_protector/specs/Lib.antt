pub mod Algorithms
pub mod Payload
pub mod Refusals
pub mod Protect
pub mod Opening
pub mod Text
pub mod Timed
pub mod Laws
