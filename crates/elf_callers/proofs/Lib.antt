pub mod Steps
pub mod Totals
