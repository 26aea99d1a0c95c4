pub mod WinnerLaw
