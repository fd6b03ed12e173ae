pub mod Fill
pub mod Counts
pub mod FormatTerm
pub mod Parts
pub mod Written
