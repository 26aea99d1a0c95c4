pub mod Parts
pub mod Chunks
pub mod ShapeLaw
pub mod NearestLaw
pub mod TieLaw
pub mod LimitLaw
pub mod WithinLaw
pub mod FiniteLaw
pub mod SizeLaw
pub mod Fours
pub mod Reading
mod WidenLaw
