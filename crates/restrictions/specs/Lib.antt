pub mod Entries
pub mod Records
pub mod Numbered
