pub mod Ends
pub mod Flushed
pub mod JsonAlike
mod JsonSpelled
mod JsonTexts
pub mod LineLists
mod Names
mod Runs
pub mod Unbuffered
