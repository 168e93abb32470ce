-- Lemmas.
pub mod Coming
pub mod Elements
pub mod Lineage
mod Rows
