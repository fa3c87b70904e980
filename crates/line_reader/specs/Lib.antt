pub mod Reading
pub mod ReaderShape
pub mod Pieces
pub mod Takes
