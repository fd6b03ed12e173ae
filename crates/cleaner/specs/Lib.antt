pub mod Writing
pub mod Alone
pub mod Delivery
pub mod Done
pub mod Parts
pub mod Shared
pub mod Two
