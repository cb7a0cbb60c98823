pub mod AllBound
mod SecondFiles
mod VersionNames
