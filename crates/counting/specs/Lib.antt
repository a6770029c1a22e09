pub mod Published
pub mod Trying
