pub mod Apply
pub mod Rows
