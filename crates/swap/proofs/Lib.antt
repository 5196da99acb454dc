pub mod Cases
pub mod Counting
pub mod Stores
pub mod Turns
pub mod Neighbour
pub mod Removal
pub mod Size
pub mod Same
