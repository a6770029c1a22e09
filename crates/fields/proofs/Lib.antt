-- `Parts`: texts put one behind the other. `Fields`: the code's terms.
pub mod Parts
pub mod Fields
