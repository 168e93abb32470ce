-- Definitions.
pub mod Worlds
pub mod Views
pub mod Outcomes
pub mod Loading
pub mod Ends
pub mod Ranks
pub mod Whole
pub mod Laws
pub mod Beginning
pub mod Starting
pub mod Steps
pub mod Checks
