pub mod RowLaw
