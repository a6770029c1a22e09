pub mod Sets
pub mod Values
