pub mod Stall
pub mod Worked
pub mod Causes
pub mod Guards
