pub mod Tables
pub mod Strips
