pub mod Refusals
pub mod Fronts
pub mod Tables
pub mod Mapped
pub mod Needed
pub mod Kept
