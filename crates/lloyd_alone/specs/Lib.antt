pub mod Totals
pub mod Watch
pub mod Answers
