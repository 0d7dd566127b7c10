pub mod Blocks
mod Facts
