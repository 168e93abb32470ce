pub mod Naming
pub mod NamingHeaps
pub mod NamingLaw
pub mod NamingRows
mod Rows
