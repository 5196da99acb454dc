pub mod Text
pub mod Line
pub mod Writer
pub mod Opened
