pub mod TabulateLaw
pub mod ListLaw
pub mod PartLaw
pub mod FirstLaw
pub mod CountLaw
pub mod BytesLaw
mod SizeLaw
