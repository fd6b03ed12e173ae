pub mod Syntax
pub mod Bytes
pub mod Encode
pub mod Limits
pub mod Automaton
pub mod Decode
pub mod Sentences
