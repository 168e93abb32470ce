-- Lemmas.
pub mod AskedLists
pub mod Comings
pub mod Cuts
pub mod GroupLists
pub mod ItemLists
pub mod Judgements
pub mod MadeLists
pub mod Passing
pub mod Placings
pub mod Prefixes
pub mod Rising
mod Rows
pub mod Slots
pub mod Stacks
pub mod StoredLists
pub mod Tables
pub mod TakenLists
pub mod Takings
