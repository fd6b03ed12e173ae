pub mod Numbered
pub mod Calls
pub mod Asked
pub mod Kept
pub mod History
pub mod KeptSites
pub mod ToldReport
