pub mod Fresh
pub mod CreateSteps
