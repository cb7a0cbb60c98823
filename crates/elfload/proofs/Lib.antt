mod Inputs
pub mod Quiet
mod MappingLines
mod Written
mod Loaded
pub mod Objects
pub mod Stops
pub mod Texts
pub mod WordLines
pub mod ObjectWords
pub mod Interpreters
pub mod Checks
pub mod FilePlans
pub mod WordsEnds
pub mod Statuses
pub mod PlanEnds
pub mod Prefixes
pub mod StartSteps
pub mod StartValues
pub mod StartParts
