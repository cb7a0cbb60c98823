pub mod Answers
pub mod Bindings
pub mod Checks
pub mod Files
pub mod Found
