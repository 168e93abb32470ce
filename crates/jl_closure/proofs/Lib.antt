pub mod Marking
mod Rows
pub mod Closing
pub mod Always
