pub mod Exact
pub mod Say
pub mod Nearest
pub mod Marked
