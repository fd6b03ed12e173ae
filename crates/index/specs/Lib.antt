pub mod First
pub mod Layout
pub mod Tables
pub mod Bucket
pub mod Tabled
pub mod Links
pub mod Lists
pub mod Linking
