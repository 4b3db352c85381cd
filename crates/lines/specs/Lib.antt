pub mod Feed
pub mod Text
