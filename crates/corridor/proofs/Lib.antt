pub mod Entries
pub mod Runs
pub mod Unique
pub mod Secrecy
pub mod Stepping
