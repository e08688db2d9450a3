pub mod Blocks
pub mod Shape
