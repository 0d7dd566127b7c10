pub mod Puts
pub mod Snoc
pub mod Lookup
pub mod KeysOf
pub mod FactsOf
pub mod Stays
pub mod Short
