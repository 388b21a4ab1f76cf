pub mod Identifier
pub mod Order
pub mod Operator
pub mod Decodes
