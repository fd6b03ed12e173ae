pub mod Meeting
pub mod Bound
pub mod Heads
pub mod Symbols
pub mod Freeing
pub mod Walking
pub mod Advancing
pub mod Leading
