pub mod DecodingLemmas
pub mod ExchangeLemmas
pub mod SharedLemmas
pub mod Sums
pub mod TurnLemmas
