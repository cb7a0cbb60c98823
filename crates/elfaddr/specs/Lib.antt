pub mod Asked
pub mod Debug
pub mod Ends
pub mod Lines
pub mod Tables
pub mod Stack
