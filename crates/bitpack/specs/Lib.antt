pub mod Layout
pub mod Answers
pub mod Range
pub mod Packed
pub mod Cursor
