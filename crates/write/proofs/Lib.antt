pub mod Readings
pub mod Fits
pub mod Leads
pub mod Names
pub mod Heads
pub mod Turns
pub mod Walks
