pub mod Cells
pub mod Repair
pub mod Update
pub mod Work
