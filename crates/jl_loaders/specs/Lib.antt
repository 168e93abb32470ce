-- Definitions.
pub mod Loaders
pub mod Constraints
pub mod Laws
pub mod Refusals
pub mod Maps
pub mod Joins
