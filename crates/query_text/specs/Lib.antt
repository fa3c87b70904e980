pub mod Laws
pub mod Printing
pub mod Reading
