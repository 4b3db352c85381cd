pub mod Saying
pub mod Way
pub mod Spoken
