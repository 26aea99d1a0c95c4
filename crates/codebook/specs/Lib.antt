pub mod Codebook
