-- Spaces: their documents, and what these answer.
pub mod Answering
pub mod Catalogue
