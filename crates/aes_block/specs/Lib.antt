pub mod Aes
pub mod Cipher
pub mod Columns
pub mod Equivalent
pub mod Field
pub mod KeyExpansion
pub mod Laws
