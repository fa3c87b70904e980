pub mod Appending
pub mod Faults
pub mod Finding
pub mod Laws
pub mod Logs
pub mod Records
