pub mod Answers
pub mod Walk
pub mod Loop
pub mod Refusals
pub mod Steps
pub mod Turning
pub mod Passing
