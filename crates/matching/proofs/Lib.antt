pub mod Variables
pub mod Held
pub mod Meeting
pub mod Taking
pub mod Splitting
pub mod Choosing
pub mod Extending
pub mod Bound
