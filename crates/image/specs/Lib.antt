pub mod Parts
pub mod Skip
