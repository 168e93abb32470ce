-- Lemmas.
pub mod Ending
mod Refusing
mod Lines
mod WorkedRows
mod Callers
