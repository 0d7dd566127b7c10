pub mod Kept
pub mod Made
pub mod MemKept
pub mod Own
pub mod Store
