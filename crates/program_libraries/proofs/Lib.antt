pub mod FoundNames
pub mod ListedInputs
pub mod NeededVersions
pub mod Served
