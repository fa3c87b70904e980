pub mod Walks
pub mod Printed
pub mod Spelled
