pub mod Meaning
pub mod Needs
pub mod Calls
pub mod Words
pub mod Row
