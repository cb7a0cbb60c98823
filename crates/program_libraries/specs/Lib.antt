pub mod Complete
pub mod Listed
pub mod NeededNames
pub mod NeededVersions
