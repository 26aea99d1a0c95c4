pub mod Choices
pub mod Profiles
