pub mod JournalSteps
pub mod Changes
pub mod Packing
pub mod OneToOne
pub mod Unrolling
