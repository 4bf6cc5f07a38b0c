pub mod Ascending
pub mod Entries
pub mod Members
pub mod Sights
pub mod Steps
