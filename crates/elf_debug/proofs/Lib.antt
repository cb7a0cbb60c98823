pub mod Remainders
pub mod Folders
