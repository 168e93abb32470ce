-- Definitions.
pub mod Nests
pub mod Members
pub mod Searching
pub mod Moving
pub mod Joining
pub mod Constraining
pub mod Imposing
pub mod References
pub mod Standing
pub mod Slots
pub mod Selection
pub mod Owners
pub mod Named
pub mod There
pub mod Laws
pub mod Decided
