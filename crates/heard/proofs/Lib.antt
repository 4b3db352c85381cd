pub mod Hearings
pub mod Numerals
pub mod Epochs
pub mod Heard
pub mod Rows
pub mod Marked
