pub mod Keys
pub mod Tickets
pub mod Weights
