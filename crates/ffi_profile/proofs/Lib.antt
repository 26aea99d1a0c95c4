pub mod ChoiceLaws
pub mod ProfileLaws
