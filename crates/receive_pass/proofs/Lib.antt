pub mod Inboxes
pub mod Made
pub mod Sent
