mod ListedLaw
mod SoundLaw
pub mod ReachLaw
