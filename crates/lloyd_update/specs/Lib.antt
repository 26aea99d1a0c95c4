pub mod Alone
pub mod Progress
