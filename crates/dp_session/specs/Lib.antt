pub mod Statuses
pub mod Frames
pub mod Session
pub mod Loans
pub mod Exchanges
pub mod Fresh
pub mod Shut
