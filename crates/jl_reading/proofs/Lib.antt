pub mod Appended
pub mod Each
mod Rows
pub mod Standing
pub mod Stands
pub mod Steps
pub mod Tables
pub mod Whole
