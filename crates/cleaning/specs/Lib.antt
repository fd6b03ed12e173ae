pub mod Indexed
pub mod Walks
pub mod RoundDone
pub mod Prepared
pub mod Room
