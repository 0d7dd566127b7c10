pub mod Ctr
pub mod Gcm
pub mod Ghash
pub mod Key
pub mod Product
