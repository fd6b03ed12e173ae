pub mod Steps
pub mod Tally
