pub mod Keys
pub mod Put
pub mod Ring
pub mod Growth
pub mod State
pub mod Listing
