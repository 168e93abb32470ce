-- Definitions.
pub mod Layers
pub mod Meaning
pub mod Leads
pub mod Defining
pub mod Refusals
pub mod Keeping
pub mod Sound
pub mod Laws
pub mod Changes
pub mod Orderly
pub mod Lines
pub mod LoaderRows
pub mod Placing
pub mod Claims
pub mod ClaimSteps
pub mod Deciding
pub mod Resolved
