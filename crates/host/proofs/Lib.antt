pub mod Decoding
pub mod Packing
pub mod Answers
pub mod Unique
