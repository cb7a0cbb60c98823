pub mod Appended
pub mod Ends
pub mod Json
pub mod JsonStrings
pub mod Names
pub mod Stops
