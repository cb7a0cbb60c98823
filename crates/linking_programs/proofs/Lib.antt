pub mod Checks
pub mod Greatest
pub mod Objects
