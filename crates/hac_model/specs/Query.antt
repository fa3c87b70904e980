-- Queries: how they are written, read and printed, and what they ask for.
pub mod Formula
pub mod FormulaOf
pub mod Grammar
pub mod Queries
pub mod QueryReading
pub mod QueryText
pub mod Terms
pub mod Words
