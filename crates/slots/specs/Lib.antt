pub mod Record
pub mod Head
pub mod Change
pub mod Answer
pub mod Image
