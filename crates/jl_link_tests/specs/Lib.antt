-- Definitions.
pub mod Counts
pub mod Grants
