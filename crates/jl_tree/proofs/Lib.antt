pub mod Below
pub mod Gathered
pub mod Trees
mod Rows
