pub mod Fill
pub mod Written
pub mod Codes
pub mod Leaves
pub mod Pieces
pub mod Formatting
