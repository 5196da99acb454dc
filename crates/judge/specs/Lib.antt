pub mod Check
pub mod Rows
pub mod Walk
