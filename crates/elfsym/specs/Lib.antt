pub mod Ends
pub mod Libraries
pub mod Lines
pub mod Scope
