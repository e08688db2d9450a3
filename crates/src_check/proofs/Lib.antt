pub mod BlockLists
pub mod Places
pub mod Sums
pub mod TrueLaws
pub mod VectorLaws
pub mod WeightCounts
