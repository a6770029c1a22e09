pub mod Borders
pub mod Growing
pub mod Looking
pub mod Walks
pub mod Reaching
pub mod Alone
