pub mod Marks
pub mod Items
pub mod Written
