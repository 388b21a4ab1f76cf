pub mod Form
pub mod Source
pub mod Write
