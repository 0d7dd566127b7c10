pub mod Floor
pub mod Passes
pub mod SoloOpening
pub mod NodeOpening
