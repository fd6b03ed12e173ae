pub mod Verdicts
pub mod Turns
pub mod Tries
pub mod Ways
