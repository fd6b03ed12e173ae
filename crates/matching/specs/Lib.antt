pub mod Bindings
pub mod Pairs
pub mod Takes
pub mod Binds
pub mod Choices
pub mod Took
