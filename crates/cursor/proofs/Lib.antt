pub mod CommandSteps
pub mod CursorSteps
pub mod OneToOne
