pub mod Lists
pub mod First
pub mod Limit
pub mod Bytes
