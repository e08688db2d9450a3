pub mod Dealing
pub mod Received
pub mod Relayed
pub mod Relaying
pub mod Steps
