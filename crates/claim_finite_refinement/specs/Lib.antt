pub mod FiniteRefinement
