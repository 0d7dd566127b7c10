pub mod PolicyValues
pub mod OrderLaws
pub mod Policy
