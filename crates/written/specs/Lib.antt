pub mod Writing
pub mod Tidied
