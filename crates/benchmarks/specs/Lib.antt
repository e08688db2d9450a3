pub mod Exchanges
pub mod Offers
pub mod Turns
