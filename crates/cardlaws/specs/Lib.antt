pub mod Sound
pub mod Soundness
pub mod Uniqueness
pub mod Definitions
