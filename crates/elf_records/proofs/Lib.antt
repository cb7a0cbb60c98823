pub mod HashNumbers
pub mod NamedRows
pub mod Tags
pub mod lemmas
