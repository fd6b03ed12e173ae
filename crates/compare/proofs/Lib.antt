pub mod Letters
pub mod Walk
pub mod Cursor
pub mod Same
