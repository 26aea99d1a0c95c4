pub mod NormLaw
pub mod RangeLaw
