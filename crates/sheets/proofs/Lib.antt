-- `Reading`: the text is read back in one way. The others: the code's terms.
pub mod Reading
pub mod Periods
pub mod Lines
pub mod Bound
pub mod Outcome
