pub mod MembersLaw
pub mod StandsLaw
pub mod DueLaw
pub mod EventsLaw
pub mod RuleLaw
