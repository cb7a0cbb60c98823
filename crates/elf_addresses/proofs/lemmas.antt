pub mod FilePieces
pub mod PartAnswers
pub mod ObjectStrings
