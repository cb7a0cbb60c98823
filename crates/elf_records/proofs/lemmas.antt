pub mod NoteParts
