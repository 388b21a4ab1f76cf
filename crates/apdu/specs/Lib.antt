pub mod Operation
pub mod Envelope
