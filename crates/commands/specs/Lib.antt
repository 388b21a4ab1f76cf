pub mod Codes
pub mod Command
pub mod Inside
pub mod Parse
pub mod Parsers
pub mod Status
