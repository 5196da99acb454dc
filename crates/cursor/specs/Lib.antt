pub mod Cursor
pub mod Given
pub mod Tests
pub mod Work
