pub mod Lists
pub mod Pool
pub mod Rising
pub mod Rows
pub mod Sets
pub mod Slots
pub mod TreeSizes
pub mod Trees
