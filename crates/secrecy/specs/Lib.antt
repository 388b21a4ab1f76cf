pub mod Locality
pub mod Frame
pub mod Secrecy
