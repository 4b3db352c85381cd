pub mod Codes
pub mod Explain
