pub mod Faults
pub mod Meaning
pub mod Kinds
pub mod Spelling
pub mod Reading
pub mod Layout
