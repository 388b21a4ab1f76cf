pub mod Slot
pub mod Chain
pub mod Store
