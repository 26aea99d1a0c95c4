pub mod Demand3Law
