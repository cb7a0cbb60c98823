pub mod Executable
pub mod Kinds
pub mod Linked
pub mod LoadedAt
pub mod Names
pub mod Numbered
pub mod StringBytes
pub mod Totals
