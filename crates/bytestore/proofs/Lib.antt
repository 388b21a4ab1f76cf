pub mod Bytes
pub mod Regions
pub mod Areas
pub mod Closing
pub mod Rows
pub mod Stores
pub mod After
