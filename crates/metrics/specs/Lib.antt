pub mod Mse
