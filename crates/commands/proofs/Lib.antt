pub mod Sure
pub mod Parts
pub mod Fronts
