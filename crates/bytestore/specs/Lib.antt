pub mod Memory
pub mod Region
