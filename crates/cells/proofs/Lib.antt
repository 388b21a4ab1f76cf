pub mod Forms
pub mod Writes
