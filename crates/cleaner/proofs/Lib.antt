pub mod Sentences
pub mod Wrote
pub mod Delivered
pub mod Ends
pub mod AfterRounds
pub mod Start
pub mod Packing
pub mod Meetings
