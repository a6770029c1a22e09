pub mod Lines
pub mod Pieces
pub mod Examples
