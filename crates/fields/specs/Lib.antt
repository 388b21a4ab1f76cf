pub mod Column
pub mod Entries
pub mod Reader
pub mod Reads
pub mod Names
