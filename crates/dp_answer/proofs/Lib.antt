pub mod Paths
pub mod Answers
pub mod Responses
pub mod Unsealed
