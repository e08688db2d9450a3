pub mod Admitting
pub mod Decoding
pub mod Faults
pub mod Frame
pub mod Frames
pub mod Judgements
pub mod Making
pub mod Stream
