mod FileEnds
mod NoSections
mod Inputs
mod KindRuns
mod LineLists
mod Runs
mod Sizes
mod SplitRuns
mod WholeTables
pub mod Compared
