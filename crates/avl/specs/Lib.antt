pub mod Tree
pub mod Way
pub mod Rotate
pub mod Edit
pub mod Search
pub mod Order
pub mod Links
