pub mod SectionNumbers
pub mod ProgramNumbers
pub mod Relocations
pub mod Note
pub mod Dynamic
pub mod SymbolNumbers
pub mod HashNumber
