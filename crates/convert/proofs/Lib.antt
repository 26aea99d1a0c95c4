pub mod WriteLaw
pub mod ConvertLaw
pub mod ExactLaw
