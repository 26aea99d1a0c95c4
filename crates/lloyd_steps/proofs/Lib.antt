pub mod ReadyLaw
pub mod RoundLaw
pub mod RestartLaw
pub mod BeginLaw
