pub mod Copies
pub mod Entries
pub mod Hearing
pub mod Tables
