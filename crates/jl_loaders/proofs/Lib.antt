-- Lemmas.
pub mod Groups
pub mod Joined
pub mod Leads
pub mod Pairs
mod Rows
pub mod Sound
