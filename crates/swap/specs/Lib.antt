pub mod Rust
pub mod Claim
