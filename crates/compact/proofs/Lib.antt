pub mod FrameLaws
pub mod ExpectedLaw
