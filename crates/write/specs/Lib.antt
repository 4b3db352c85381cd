pub mod Plain
pub mod Written
pub mod Inner
