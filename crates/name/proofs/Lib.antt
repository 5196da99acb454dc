pub mod Naming
pub mod NameSteps
pub mod OneToOne
