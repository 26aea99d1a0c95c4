pub mod ListLaw
pub mod ValueLaw
pub mod DecodeLaw
pub mod CheckLaw
pub mod AcceptLaw
