pub mod Bases
pub mod Close
pub mod Decoding
pub mod Desks
pub mod Gathering
pub mod Passes
pub mod Regions
