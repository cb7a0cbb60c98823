pub mod Crc
pub mod Paths
pub mod Wanted
