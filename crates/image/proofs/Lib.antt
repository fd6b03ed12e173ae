pub mod Closes
pub mod Skip
pub mod Readings
pub mod Accepted
pub mod Finding
