pub mod Worked
pub mod Workers
