pub mod Always
pub mod Once
pub mod Progress
pub mod Rows
pub mod Windows
pub mod Written
