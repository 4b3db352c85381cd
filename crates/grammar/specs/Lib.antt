pub mod Keywords
pub mod Order
pub mod Rows
