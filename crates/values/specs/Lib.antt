pub mod Values
pub mod Counting
