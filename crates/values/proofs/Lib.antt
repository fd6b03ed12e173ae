pub mod Sizes
pub mod Turns
pub mod Bytes
pub mod Expressions
