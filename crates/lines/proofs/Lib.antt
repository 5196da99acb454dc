pub mod Writing
pub mod TextSteps
pub mod LineSteps
pub mod Images
pub mod Printed
pub mod Bounds
pub mod WholeSteps
