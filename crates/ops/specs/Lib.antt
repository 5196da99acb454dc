pub mod Ending
pub mod Given
pub mod Op
pub mod Ops
pub mod Perform
pub mod Image
