pub mod Tokens
pub mod Spans
pub mod Numbering
pub mod Scan
pub mod Lockstep
pub mod Alike
