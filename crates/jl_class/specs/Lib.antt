pub mod Classes
pub mod Faults
pub mod Longer
pub mod Meaning
pub mod Reading
pub mod Spelling
pub mod Tables
