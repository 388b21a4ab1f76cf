pub mod Runs
pub mod Added
pub mod Both
pub mod Session
