pub mod Free
pub mod Walk
