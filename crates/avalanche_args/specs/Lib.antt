pub mod CommandOf
pub mod Numbers
pub mod Options
pub mod Ranges
pub mod Steps
