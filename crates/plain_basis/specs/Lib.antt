pub mod BackSubstitution
pub mod Basis
pub mod Columns
