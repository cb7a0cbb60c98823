mod AskedParts
mod Named
mod Printed
pub mod Replaced
