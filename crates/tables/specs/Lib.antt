pub mod Table
pub mod Hearing
pub mod Widths
