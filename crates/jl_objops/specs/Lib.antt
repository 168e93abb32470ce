-- Definitions.
pub mod Outcomes
pub mod Types
pub mod Members
pub mod Fields
pub mod Objects
pub mod Arrays
pub mod Casts
pub mod Rows
