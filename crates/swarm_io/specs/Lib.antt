pub mod Counts
pub mod Mem
pub mod Moved
pub mod SinkRefusal
pub mod Steady
