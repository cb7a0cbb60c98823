pub mod AllBound
pub mod SecondFile
pub mod VersionNames
pub mod CheckedFiles
