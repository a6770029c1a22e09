pub mod Border
pub mod Reach
