pub mod Fits
pub mod Segments
