pub mod BackSubstitution
pub mod Columns
pub mod Offers
