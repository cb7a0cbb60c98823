pub mod Numbers
pub mod PrintedBytes
pub mod PrintedLines
pub mod Texts
pub mod TextComparisons
pub mod lemmas
