pub mod Passing
pub mod Again
pub mod Judged
