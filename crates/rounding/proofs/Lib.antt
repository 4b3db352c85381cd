pub mod Laws
pub mod Rounds
pub mod Numbers
pub mod Nearest
pub mod Marked
